-- The pair where one is left, and else the end.
use Rattle.std.proofs.Common.{◌≡◌, ℕ, ◌-◌, ◌<◌, ◌≤◌, true, false, ltb, arith, le-ltb, lt-ltb}
use Rattle.list_format.proofs.ListLaws.{accepted-usable}
use Rattle.delay_list.proofs.next_from.Goals as goal

some_left : (m k left : ℕ) → left ≡ m - k → 0 < left → ltb k m ≡ true
some_left m k left e h = lt-ltb k m (omega arith)

none_left : (m k left : ℕ) → left ≡ m - k → left ≤ 0 → ltb k m ≡ false
none_left m k left e h = le-ltb k m (omega arith)

pub pair_from-requires : goal.pair_from-requires
pair_from-requires c =
    record { usable = accepted-usable _ c.requires; below = omega (arith, c.pairs_left.ensures, c.if-pairs_left-gt0.true) }
