-- Worked examples: what is asked of a list of needs and pairs, and the answer, in one table; over pairs, and over the words of the list.
use Rattle.std.specs.Prelude.{ℕ, ◌*◌, Bool, true, false, List, [], ◌∷◌, ◌++◌, map, length, take}
use Rattle.timing.specs.declared.Pair.{Pair}
use Rattle.timing.specs.Rules.{pair}
use Rattle.timing.specs.Limits.{scratch_places}
use Rattle.ordering.specs.Order.{ordered}
use Rattle.buffers.specs.Over.{zeros}
use Rattle.refusals.specs.Reply.{Outcome, done}
use Rattle.list_format.specs.Lists.{counting}
use Rattle.list_format.specs.Read.{four_of}
use Rattle.list_format.specs.Write.{given_hold, given_setup, words_of, writing_by}
use Rattle.free_laws.specs.Free.{common, free_period, free_schedule}
use Rattle.split_laws.specs.Split.{first_split}
use Rattle.plan_laws.specs.Plan.{two_period, two_offset, timings_of, two_timings}
use Rattle.split.specs.Splitting.{splitting}
use Rattle.planner.specs.PlanCall.{planning}
use Rattle.converter.specs.Convert.{converting}

-- a question about the needs and the pairs of n registers, with its answer. Needs are hold and setup of each register; those left out are 0
pub data Example : Type 0 where
  -- the full plan: common, free and two-timing period, offset; free timings; the split's timings
  plan : ℕ → List ℕ → List Pair → ℕ → ℕ → ℕ → ℕ → List ℕ → List ℕ → Example
  -- a period and an offset: the first split's timings, none if no split works
  try : ℕ → List ℕ → List Pair → ℕ → ℕ → List ℕ → Example
  -- a stored list, whose pairs come in any order and may repeat: the pairs of the converted list, and then the full plan
  convert : ℕ → List ℕ → List Pair → List Pair → ℕ → ℕ → ℕ → ℕ → List ℕ → List ℕ → Example

-- ---- over pairs

-- with the needs of the capture register counted in
abbrev pub counted : List ℕ → Pair → Pair
counted ys p = counting (given_hold ys p.capture) (given_setup ys p.capture) p

-- the same question with the answer that the definitions give
unfoldable pub computed : Example → Example
computed (plan n ys ps c f t o free split) =
    let qs : List Pair = map (counted ys) ps in
    plan n ys ps (common qs) (free_period n qs) (two_period n qs) (two_offset n qs) (free_schedule n qs) (two_timings n qs)
computed (try n ys ps period offset split) =
    try n ys ps period offset (timings_of offset (first_split n period offset (map (counted ys) ps)))
-- the pairs as they are stored give the plan of the converted list too
computed (convert n ys ps qs c f t o free split) =
    let rs : List Pair = map (counted ys) ps in
    convert n ys ps (ordered ps) (common rs) (free_period n rs) (two_period n rs) (two_offset n rs) (free_schedule n rs) (two_timings n rs)

-- ---- over words

-- the numbers of the pairs, four for each
unfoldable pub numbers_of_pairs : List Pair → List ℕ
numbers_of_pairs [] = []
numbers_of_pairs (p ∷ ps) = four_of p ++ numbers_of_pairs ps

-- all needs, two for each register
abbrev pub all_needs : ℕ → List ℕ → List ℕ
all_needs n ys = take (2 * n) (ys ++ zeros (2 * n))

-- the list of n registers that they are written as
unfoldable pub list_for : ℕ → List ℕ → List Pair → List ℕ
list_for n ys ps = words_of n (numbers_of_pairs ps) (all_needs n ys)

-- what writing the list comes to, with just enough room, and with the order of the pairs asked for or not
abbrev pub writes_by : Bool → ℕ → List ℕ → List Pair → Outcome
writes_by asked n ys ps = writing_by asked n (numbers_of_pairs ps) (all_needs n ys) (length (list_for n ys ps))

abbrev pub writes : ℕ → List ℕ → List Pair → Outcome
writes = writes_by true

-- what the calls come to that write the list of the example and then ask its question of it: job 5 for a plan, job 4 for a try,
-- each with just enough room and scratch; a stored list is converted first, and its plan is that of the converted list
unfoldable pub called : Example → List Outcome
called (plan n ys ps c f t o free split) = writes n ys ps ∷ planning (list_for n ys ps) (2 * n) (scratch_places n (length ps)) ∷ []
called (try n ys ps period offset split) =
    writes n ys ps ∷ splitting (list_for n ys ps) period offset n (scratch_places n (length ps)) ∷ []
called (convert n ys ps qs c f t o free split) =
    writes_by false n ys ps
    ∷ converting (list_for n ys ps) (length (list_for n ys qs))
    ∷ planning (list_for n ys qs) (2 * n) (scratch_places n (length qs))
    ∷ []

-- what writing the list has to come to: its words and their count
abbrev pub written : ℕ → List ℕ → List Pair → Outcome
written n ys ps = done (length (list_for n ys ps) ∷ []) (list_for n ys ps)

-- what a try has to come to: 1 and the split's timings, or 0 and nothing
unfoldable pub tried : List ℕ → Outcome
tried [] = done (0 ∷ []) []
tried (t ∷ ts) = done (1 ∷ []) (t ∷ ts)

-- what these calls have to come to by the example's answer
unfoldable pub answers : Example → List Outcome
answers (plan n ys ps c f t o free split) = written n ys ps ∷ done (c ∷ f ∷ t ∷ o ∷ []) (free ++ split) ∷ []
answers (try n ys ps period offset split) = written n ys ps ∷ tried split ∷ []
answers (convert n ys ps qs c f t o free split) = written n ys ps ∷ written n ys qs ∷ done (c ∷ f ∷ t ∷ o ∷ []) (free ++ split) ∷ []

-- ---- the table

abbrev pub P : List Pair
P = pair 0 1 7 10 ∷ pair 1 0 1 3 ∷ []

-- register 0 has setup 2, register 1 hold 1 and setup 1: with these counted in, P is 0 1 6 11 and 1 0 1 5
abbrev pub needs : List ℕ
needs = 0 ∷ 2 ∷ 1 ∷ 1 ∷ []

unfoldable pub table : List Example
table =
    plan 2 [] P 10 7 7 3 (0 ∷ 3 ∷ []) (0 ∷ 3 ∷ [])
    ∷ try 2 [] P 7 2 []
    ∷ try 2 [] P 7 3 (0 ∷ 3 ∷ [])
    ∷ try 2 [] P 7 4 (0 ∷ 4 ∷ [])
    ∷ try 2 [] P 7 5 []
    ∷ try 2 [] (pair 0 1 3 10 ∷ []) 9 2 (0 ∷ 2 ∷ [])
    ∷ plan 2 [] (pair 0 1 3 10 ∷ []) 10 7 7 3 (0 ∷ 3 ∷ []) (0 ∷ 3 ∷ [])
    ∷ plan 2 [] (pair 0 1 0 10 ∷ []) 10 10 10 0 (0 ∷ 0 ∷ []) (0 ∷ 0 ∷ [])
    ∷ plan 2 [] (pair 0 1 10 10 ∷ []) 10 1 1 9 (0 ∷ 9 ∷ []) (0 ∷ 9 ∷ [])
    ∷ plan 3 [] (pair 0 1 9 9 ∷ pair 1 2 9 9 ∷ pair 2 0 3 3 ∷ []) 9 7 9 0 (0 ∷ 2 ∷ 4 ∷ []) (0 ∷ 0 ∷ 0 ∷ [])
    ∷ plan 3 [] [] 1 1 1 0 (0 ∷ 0 ∷ 0 ∷ []) (0 ∷ 0 ∷ 0 ∷ [])
    ∷ plan 1 [] (pair 0 0 0 5 ∷ []) 5 5 5 0 (0 ∷ []) (0 ∷ [])
    ∷ convert 2 [] (pair 0 1 7 10 ∷ pair 0 1 2 4 ∷ []) (pair 0 1 2 10 ∷ []) 10 8 8 2 (0 ∷ 2 ∷ []) (0 ∷ 2 ∷ [])
    ∷ plan 2 needs P 11 8 8 3 (0 ∷ 3 ∷ []) (0 ∷ 3 ∷ [])
    ∷ try 2 needs P 8 2 []
    ∷ try 2 needs P 8 3 (0 ∷ 3 ∷ [])
    ∷ try 2 needs P 8 4 []
    ∷ plan 2 (0 ∷ 0 ∷ 6 ∷ []) P 10 9 9 1 (0 ∷ 1 ∷ []) (0 ∷ 1 ∷ [])
    ∷ convert 2 needs (pair 1 0 1 3 ∷ pair 0 1 7 9 ∷ pair 0 1 8 10 ∷ []) P 11 8 8 3 (0 ∷ 3 ∷ []) (0 ∷ 3 ∷ [])
    ∷ convert 2 [] P P 10 7 7 3 (0 ∷ 3 ∷ []) (0 ∷ 3 ∷ [])
    ∷ plan 1 (3 ∷ 4 ∷ []) (pair 0 0 3 5 ∷ []) 9 9 9 0 (0 ∷ []) (0 ∷ [])
    ∷ []
