-- A buffer that was filled holds more than the most that fits what it is for.
use Prim.Native.Nat.{ℕ, ◌≤◌, ◌<◌}
use mathlib.Core.List.{List}
use mathlib.Core.Path.{◌≡◌}
use lib.ListN.{length, take}
use lib.Seq.{take_all}

pub received-cut : (bytes : List ℕ) (count most : ℕ) {r : List ℕ} → r ≡ take count bytes → most < length bytes
    → length bytes ≤ count → most < length r
received-cut bytes count most e room full = rw (e, take_all count bytes full) room
