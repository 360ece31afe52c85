-- Setup and hold of pair k as it is written in a list, with the needs of its capture register as the words give them:
--     setup   S(launch) - S(capture) is at most T - greatest - setup(capture)
--     hold    S(capture) - S(launch) is at most least - hold(capture)
-- with what is subtracted brought to the other side: for whole timings, with the margins, for rival schedules, and for rival splits.
use Rattle.std.specs.Prelude.{Bool, List, ℕ, ◌+◌, ◌*◌, ◌≤◌, ◌<◌, ℤ}
use Rattle.std.proofs.Math.IntN.{sub_ℕ}
use Rattle.timing.specs.Rules.{time}
use Rattle.list_format.specs.Lists.{pair_count, hold_at, setup_at, written_at}
use Rattle.checker.specs.declared.Rule.{Rule}
use Rattle.checker.specs.declared.Rule.TheVariants.{Setup, Hold}
use Rattle.free_laws.specs.Rival.{Frac, frac_at, AtMost}
use Rattle.split_laws.specs.Split.{time_of}
use Rattle.plan_laws.specs.Unbeaten.{choice_of}

-- each of two follows from the other
pub record Iff (A B : Type 0) : Type 0 where
  pub to : A → B
  pub from : B → A

module _ (ws : List ℕ) where
  -- what holds of every pair of the list, by its index
  abbrev pub EachPair : (ℕ → Type 0) → Type 0
  EachPair P = (k : ℕ) → k < pair_count ws → P k

  module _ (k : ℕ) where
    abbrev pub launch : ℕ
    launch = (written_at ws k).launch

    abbrev pub capture : ℕ
    capture = (written_at ws k).capture

    -- the greatest delay with the setup after it
    abbrev pub longest : ℕ
    longest = (written_at ws k).greatest + setup_at ws capture

    -- a schedule of whole timings, at period t
    pub record NeededMet (t : ℕ) (s : List ℕ) : Type 0 where
      pub setup : time s launch + longest ≤ time s capture + t
      pub hold : time s capture + hold_at ws capture ≤ time s launch + (written_at ws k).least

    -- the margins of its rules: right side minus left side
    unfoldable pub needed_margin : ℕ → List ℕ → Rule → ℤ
    needed_margin t s Setup = sub_ℕ (time s capture + t) (time s launch + longest)
    needed_margin t s Hold = sub_ℕ (time s launch + (written_at ws k).least) (time s capture + hold_at ws capture)

    -- a schedule of fractions, each over a number of its own, and below 0 too
    pub record NeededFrac (t : ℕ) (s : List Frac) : Type 0 where
      pub setup : AtMost (frac_at s launch) longest (frac_at s capture) t
      pub hold : AtMost (frac_at s capture) (hold_at ws capture) (frac_at s launch) (written_at ws k).least

    -- a split at period t / u and offset s / u, both rules multiplied by u
    pub record NeededOver (u t s : ℕ) (c : List Bool) : Type 0 where
      pub setup : time_of s (choice_of c launch) + longest * u ≤ time_of s (choice_of c capture) + t
      pub hold : time_of s (choice_of c capture) + hold_at ws capture * u ≤ time_of s (choice_of c launch) + (written_at ws k).least * u
