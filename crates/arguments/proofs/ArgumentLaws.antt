-- From what scanning promises to the argument.
use Prim.Native.Nat.{ℕ}
use mathlib.Core.Bool.{false}
use mathlib.Core.List.{List}
use mathlib.Core.Path.{◌≡◌}
use lib.ListN.{get_or}
use borrow.Author.Tests.{ne_eqb}
use Rattle.std.specs.Prelude.{None, Some, Ok, Err}
use Rattle.scan.specs.declared.Numbers.{Numbers}
use Rattle.scan.specs.declared.FaultAt.{FaultAt}
use Rattle.scan.specs.Scan.{Scanned, ScanAs}
use Rattle.scan.proofs.StoredLaws.{stored-first}
use Rattle.arguments.specs.Arguments.{argument_from, argument_of}

module _ {text was xs : List ℕ} {r : Scanned} (a : ScanAs false text was xs r) where
  pub argument-faulty : {f : FaultAt} → r ≡ Err f → None ≡ argument_of text
  unfolding argument_from
  argument-faulty e = rw (← a.answer, e)

  module _ {n : Numbers} (e : r ≡ Ok n) where
    pub argument-one : n.count ≡ 1 → Some (get_or xs 0 0) ≡ argument_of text
    unfolding argument_from
    argument-one one = rw (← a.answer, e, one, stored-first a e)

    pub argument-more : (n.count ≡ 1 → ⊥) → None ≡ argument_of text
    unfolding argument_from
    argument-more more = rw (← a.answer, e, ne_eqb n.count 1 more)
