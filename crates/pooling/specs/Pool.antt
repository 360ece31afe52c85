-- Pooling two lists of one chip: what a call comes to.
use Rattle.std.specs.Prelude.{ℕ, zero, suc, ◌<◌, ◌≤◌, Bool, true, false, not, cond, ◌&&◌, List, [], ◌∷◌, ◌++◌, ◌≡◌, ltb, eqb, length, take, Result, Ok, Err}
use Rattle.timing.specs.Rules.{admissible}
use Rattle.timing.specs.Limits.{max_pairs}
use Rattle.refusals.specs.Checks.{Check, Fault, number_of, first_fault}
use Rattle.refusals.specs.declared.Refusal.TheVariants.{Room, Unlike, Pairs}
use Rattle.refusals.specs.declared.Refused.{Refused}
use Rattle.refusals.specs.Reply.{Reply, refusal, numbers, Outcome, done, reply_of, buffer_after, answered}
use Rattle.list_format.specs.Lists.{registers, pair_count, need_words, hold_at, setup_at, needs_of, place_by, pairs, differ, list_checks, IsAccepted}
use Rattle.relist.specs.Relist.{relisted}
use Rattle.merging.specs.Merge.{pooled_pairs}
use Rattle.free_laws.specs.Rival.{Frac, RivalAdmissible}
use Rattle.plan_laws.specs.Unbeaten.{WorksOver}
use Rattle.pooling.specs.declared.PoolPart.{PoolPart}
use Rattle.pooling.specs.declared.PoolPart.TheVariants.{Call, First, Second}
use Rattle.pooling.specs.declared.PoolRefused.{PoolRefused}

-- the pooled list: the pairs of both in order, those in both joined, with the registers and the needs of the first
abbrev pub pooled : List ℕ → List ℕ → List ℕ
pooled ws vs = relisted ws (pooled_pairs ws vs)

-- whether the first so many registers have the same needs in both, as values: without words of needs they are 0
unfoldable pub same_needs : List ℕ → List ℕ → ℕ → Bool
same_needs ws vs zero = true
same_needs ws vs (suc r) = same_needs ws vs r && (eqb (hold_at ws r) (hold_at vs r) && eqb (setup_at ws r) (setup_at vs r))

-- 21: other counts of registers, or other needs. 22: too many pooled pairs. 2: an answer buffer of fewer places than the pooled list has words
abbrev pub both_checks : List ℕ → List ℕ → ℕ → List Check
both_checks ws vs room =
    (differ (registers ws) (registers vs), Unlike, 0)
    ∷ (not (same_needs ws vs (registers ws)), Unlike, 0)
    ∷ (ltb max_pairs (length (pooled_pairs ws vs)), Pairs, 0)
    ∷ (ltb room (length (pooled ws vs)), Room, 0)
    ∷ []

-- 11 to 20 of the first list, then of the second, then those of both
abbrev pub pool_checks : List ℕ → List ℕ → ℕ → List Check
pool_checks ws vs room = list_checks ws ++ (list_checks vs ++ both_checks ws vs room)

-- into `room` places: the count of words is returned, and that many places are filled
unfoldable pub pooling : List ℕ → List ℕ → ℕ → Outcome
pooling ws vs room = answered (pool_checks ws vs room) (done (length (pooled ws vs) ∷ []) (pooled ws vs))

-- the list that a refusal is of: 1 or 2, the first of the two that is not accepted; 0 where both are
unfoldable pub is_passed : Fault → Bool
is_passed (Ok u) = true
is_passed (Err r) = false

abbrev pub refused_list : List ℕ → List ℕ → ℕ
refused_list ws vs = cond (is_passed (first_fault (list_checks ws))) (cond (is_passed (first_fault (list_checks vs))) 0 2) 1

-- what a caller of a call on several lists is told: a refusal, with the list that it is of, or 0 for none of them, its number and its place; or
-- the numbers returned
pub data ListReply : Type 0 where
  list_refusal : ℕ → ℕ → ℕ → ListReply
  list_numbers : List ℕ → ListReply

-- what the caller of one list would be told, with the list that a refusal is of
unfoldable pub of_list : ℕ → Reply → ListReply
of_list list (refusal number place) = list_refusal list number place
of_list list (numbers returned) = list_numbers returned

-- what a refusal is of, by the number of the list, or 0 for neither
abbrev pub number_of_part : PoolPart → ℕ
number_of_part Call = 0
number_of_part First = 1
number_of_part Second = 2

abbrev pub refused_part : PoolPart → Refused → PoolRefused
refused_part part r = record { «of» = part; refused = r }

-- what was found of a part of the call
unfoldable pub part_of : {A : Type 0} → PoolPart → Result A Refused → Result A PoolRefused
part_of part (Ok x) = Ok x
part_of part (Err r) = Err (refused_part part r)

-- the count of words, or a refusal with what it is of
abbrev pub Pooling : Type 0
Pooling = Result ℕ PoolRefused

-- the number and values of each case of the answer
unfoldable pub pool_reply : Pooling → ListReply
pool_reply (Ok count) = list_numbers (count ∷ [])
pool_reply (Err p) = list_refusal (number_of_part p.«of») (number_of p.refused.refusal) p.refused.place

-- the list us stands for ws and vs together: it is accepted, has their registers and needs, and asks for what each of them asks for
pub record StandsFor (ws vs us : List ℕ) : Type 0 where
  pub accepted : IsAccepted us
  pub registers_are : (registers us ≡ registers ws) × (registers us ≡ registers vs)
  pub needs_are : (needs_of us ≡ needs_of ws) × (needs_of us ≡ needs_of vs)
  -- at every period a schedule is admissible exactly if it is for each of the two
  pub schedules : (t : ℕ) (s : List ℕ) → admissible t (pairs us) s ≡ admissible t (pairs ws) s && admissible t (pairs vs) s
  -- with fractions and times below 0 too
  pub rivals : (t : ℕ) (s : List Frac)
      → (RivalAdmissible t (pairs us) s → RivalAdmissible t (pairs ws) s × RivalAdmissible t (pairs vs) s)
      × (RivalAdmissible t (pairs ws) s × RivalAdmissible t (pairs vs) s → RivalAdmissible t (pairs us) s)
  -- and a split works at a period t / u and an offset s / u exactly if it does for each of the two
  pub works : (u t s : ℕ) (c : List Bool)
      → (WorksOver u t s c (pairs us) → WorksOver u t s c (pairs ws) × WorksOver u t s c (pairs vs))
      × (WorksOver u t s c (pairs ws) × WorksOver u t s c (pairs vs) → WorksOver u t s c (pairs us))

-- the lists ws and vs were pooled into a buffer that held `was` and holds `now`
pub record PooledAs (ws vs was now : List ℕ) (r : Pooling) : Type 0 where
  pub reply : pool_reply r ≡ of_list (refused_list ws vs) (reply_of (pooling ws vs (length was)))
  pub stored : now ≡ buffer_after (pooling ws vs (length was)) was
  -- the list in the first places stands for both
  pub stands : (count : ℕ) → r ≡ Ok count → StandsFor ws vs (take count now)

-- ---- what the steps ask for

-- an accepted list with so many pairs
pub record Listed (ws : List ℕ) (m : ℕ) : Type 0 where
  pub accepted : IsAccepted ws
  pub pairs_are : m ≡ pair_count ws

-- two accepted lists of n and `other` registers, with so many pooled pairs, and the places that the pooled list takes
pub record BothIn (ws vs : List ℕ) (n other count places : ℕ) : Type 0 where
  pub first : IsAccepted ws
  pub second : IsAccepted vs
  pub registers_are : n ≡ registers ws
  pub others_are : other ≡ registers vs
  pub count_is : count ≡ length (pooled_pairs ws vs)
  pub places_are : places ≡ length (pooled ws vs)

-- two lists that can be pooled, with so many words of needs and pooled pairs, into so many places
pub record PoolRoom (ws vs : List ℕ) (needs count room : ℕ) : Type 0 where
  pub first : IsAccepted ws
  pub second : IsAccepted vs
  pub same : registers ws ≡ registers vs
  pub needed : same_needs ws vs (registers ws) ≡ true
  pub needs_are : needs ≡ need_words ws
  pub count_is : count ≡ length (pooled_pairs ws vs)
  pub few : count ≤ max_pairs
  pub places : place_by needs count < room
