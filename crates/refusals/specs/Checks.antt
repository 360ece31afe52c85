-- A run of checks: the first that fails decides.
use Rattle.std.specs.Prelude.{ℕ, zero, suc, ◌+◌, Bool, true, false, List, [], ◌∷◌, ◌++◌, Result, Ok, Err}
use Rattle.refusals.specs.declared.Refusal.{Refusal}
use Rattle.refusals.specs.declared.Refusal.TheVariants.{Scratch, Room, Call, Length, Size, Word, Register, Delay, Crossed, Sum}
use Rattle.refusals.specs.declared.Refusal.TheVariants.{NoNeeds, Hold, Order, Unlike, Pairs}
use Rattle.refusals.specs.declared.Refused.{Refused}

-- the number by which the papers know a refusal
unfoldable pub number_of : Refusal → ℕ
number_of Scratch = 1
number_of Room = 2
number_of Call = 3
number_of Length = 11
number_of Size = 12
number_of Word = 13
number_of Register = 14
number_of Delay = 15
number_of Crossed = 16
number_of Sum = 17
number_of NoNeeds = 18
number_of Hold = 19
number_of Order = 20
number_of Unlike = 21
number_of Pairs = 22

-- a check: whether it fails, and the refusal with its place if it does
abbrev pub Check : Type 0
Check = Bool × Refusal × ℕ

-- what a run of checks finds: nothing, or the first refusal with its place
abbrev pub Fault : Type 0
Fault = Result (Unit {0}) Refused

abbrev pub no_fault : Fault
no_fault = Ok tt

abbrev pub refused_at : Refusal → ℕ → Refused
refused_at refusal place = record { refusal = refusal; place = place }

-- one check more, which counts where no_fault before it failed
unfoldable pub or_check : Fault → Check → Fault
or_check (Err r) c = Err r
or_check (Ok u) (true, refusal, place) = Err (refused_at refusal place)
or_check (Ok u) (false, refusal, place) = Ok u

-- what one check finds
abbrev pub checked : Check → Fault
checked = or_check no_fault

-- what a run of checks finds after f
unfoldable pub fault_after : Fault → List Check → Fault
fault_after f [] = f
fault_after f (c ∷ cs) = fault_after (or_check f c) cs

-- the first of a run of checks that fails
abbrev pub first_fault : List Check → Fault
first_fault = fault_after no_fault

-- what one run of checks finds, or else another
unfoldable pub then_fault : Fault → Fault → Fault
then_fault (Err r) g = Err r
then_fault (Ok u) g = g

-- the checks f i, f (i + 1), .. of so many things, one after the other
unfoldable pub each_check : (ℕ → List Check) → ℕ → ℕ → List Check
each_check f i zero = []
each_check f i (suc left) = f i ++ each_check f (i + 1) left
