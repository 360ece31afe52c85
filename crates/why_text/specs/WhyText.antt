-- What is printed for a period: that a split works, or a register that can be neither early nor late, with the steps of its two chains.
use Rattle.std.specs.Prelude.{ℕ, ◌+◌, ◌-◌, ◌*◌, ◌≤◌, ◌<◌, Bool, true, false, cond, List, ◌++◌, ◌≡◌, eqb, length, get_or, take, drop}
use Rattle.timing.specs.declared.Pair.{Pair}
use Rattle.timing.specs.Limits.{max_registers, max_scratch}
use Rattle.timing.specs.Rules.{setup_met}
use Rattle.buffers.specs.Run.{run}
use Rattle.refusals.specs.Reply.{told}
use Rattle.list_format.specs.Lists.{pair_count, pairs, IsUsable}
use Rattle.free_laws.specs.Free.{common}
use Rattle.split_laws.specs.Split.{time_of}
use Rattle.chain_laws.specs.Chains.{index_of, step_pair, launch_late, capture_late, Chains}
use Rattle.blocking.specs.Blocking.{per_chain, why_not, WorkingAt, BlockedBy}
use Rattle.text_pieces.specs.Pieces.{letters, named, space}
use Rattle.text_pieces.specs.Saying.{Saying, Said, text, trouble, SaidAs}
use Rattle.refusal_text.specs.RefusalText.{colon, caused_line}

-- ---- how long a text can be

-- a number below 10,000, and the byte that ends it
abbrev pub short_width : ℕ
short_width = 5

-- "early"
abbrev pub choice_width : ℕ
choice_width = 5

-- " breaks setup", as the end of a line
abbrev pub rule_width : ℕ
rule_width = 14

-- " launch " and ", capture " with their numbers and their choices, and the rule
abbrev pub choices_width : ℕ
choices_width = 8 + short_width + choice_width + (10 + short_width + choice_width + rule_width)

-- the line of a step: "pair " with its number, and these
abbrev pub step_width : ℕ
step_width = 5 + short_width + choices_width

-- "blocked: register " with its number, and the rest of the line
abbrev pub register_width : ℕ
register_width = 18 + short_width + 30

-- the line before the steps of a chain
abbrev pub way_width : ℕ
way_width = 20

-- the places for the steps of the largest list
abbrev pub step_places : ℕ
step_places = per_chain * max_registers

-- places enough for any of these texts
abbrev pub why_places : ℕ
why_places = register_width + 2 * way_width + step_width * step_places

-- ---- a step

-- the choice of an end
unfoldable pub choice_words : Bool → List ℕ
choice_words false = letters "early"
choice_words true = letters "late"

-- an end: its name, its register, its choice
abbrev pub end_words : List ℕ → ℕ → Bool → List ℕ
end_words name register late = named name register space ++ choice_words late

-- the rule that a choice breaks, by whether setup is met: setup, or else hold
unfoldable pub rule_words : Bool → List ℕ
rule_words false = letters " breaks setup\n"
rule_words true = letters " breaks hold\n"

-- both ends of a pair, with choice a at its launch and b at its capture, and the rule that these break at period t and offset s
abbrev pub choices_words : ℕ → ℕ → Pair → Bool → Bool → List ℕ
choices_words t s p a b =
    end_words (letters " launch ") p.launch a
    ++ (end_words (letters ", capture ") p.capture b ++ rule_words (setup_met p t (time_of s a) (time_of s b)))

-- step e: its pair, counted from 0, and its choices
unfoldable pub step_line : ℕ → ℕ → List Pair → ℕ → List ℕ
step_line t s ps e = named (letters "pair ") (index_of e) colon ++ choices_words t s (step_pair ps e) (launch_late e) (capture_late e)

-- a line for each step of a chain
unfoldable pub chain_lines : ℕ → ℕ → List Pair → List ℕ → List ℕ
chain_lines t s ps es = run (λ i. step_line t s ps (get_or es i 0)) (length es)

-- where a chain leads, by the choice that it begins with
unfoldable pub way_words : Bool → List ℕ
way_words false = letters "from early to late:\n"
way_words true = letters "from late to early:\n"

abbrev pub chain_text : ℕ → ℕ → List Pair → Bool → List ℕ → List ℕ
chain_text t s ps late es = way_words late ++ chain_lines t s ps es

-- ---- the text

abbrev pub register_line : ℕ → List ℕ
register_line r = named (letters "blocked: register ") r space ++ letters "can be neither early nor late\n"

-- the register, the chain from early to late, and the chain from late back to early
unfoldable pub blocked_text : ℕ → ℕ → List Pair → Chains → List ℕ
blocked_text t s ps x =
    register_line x.register ++ (chain_text t s ps false x.first ++ chain_text t s ps true x.second)

abbrev pub workable_said : Saying
workable_said = text (letters "workable\n")

-- at the offset common less period, or 0 if that is negative
abbrev pub blocked_said : List ℕ → ℕ → Chains → Saying
blocked_said ws period x = text (blocked_text period (common (pairs ws) - period) (pairs ws) x)

-- 0 is returned where a split works
abbrev pub why_said : List ℕ → ℕ → Chains → List ℕ → List ℕ → Saying
why_said ws period x returned stored = cond (eqb (get_or returned 0 0) 0) workable_said (blocked_said ws period x)

-- what a refusal is caused by: of 3, the period (31)
unfoldable pub why_cause : ℕ → ℕ
why_cause number = cond (eqb number 3) 31 number

abbrev pub why_refused : ℕ → ℕ → Saying
why_refused number place = trouble (caused_line number place (why_cause number))

-- what is said for the list ws, if x are the chains that the call shows where nothing works
unfoldable pub why_text : List ℕ → ℕ → Chains → Saying
why_text ws period x = told why_refused (why_said ws period x) (why_not ws period step_places max_scratch x)

-- what a call promises: what is said, and that it is true. Which chains are shown is left free
pub record WhySaidAs (ws : List ℕ) (period : ℕ) (was now : List ℕ) (r : Said) : Type 0 where
  pub chains : Chains
  pub said : SaidAs why_places (why_text ws period chains) was now r
  -- workable: there is a split
  pub workable : why_text ws period chains ≡ workable_said → WorkingAt ws period
  -- blocked: there is none, and the chains show why
  pub blocked : why_text ws period chains ≡ blocked_said ws period chains
      → BlockedBy ws period chains chains.register (length chains.first) (length chains.second)

-- ---- what the code asks of chains that it prints

-- the steps of a chain are of pairs of the list ws
pub record StepsIn (ws es : List ℕ) : Type 0 where
  pub usable : IsUsable ws
  pub below : (i : ℕ) → i < length es → index_of (get_or es i 0) < pair_count ws

-- the chains at a register, by their lengths, whose steps stand in the first places of xs
abbrev pub chains_in : ℕ → ℕ → ℕ → List ℕ → Chains
chains_in register first second xs = record { register = register; first = take first xs; second = take second (drop first xs) }

-- they can be printed
pub record ShownIn (ws : List ℕ) (x : Chains) : Type 0 where
  pub register : x.register < max_registers
  pub first : StepsIn ws x.first
  pub second : StepsIn ws x.second
  pub few : length x.first + length x.second ≤ step_places
