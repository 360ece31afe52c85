-- What bytes look like, by three of them and how many there are.
use Prim.Native.Nat.{ℕ, ◌≤◌, ◌<◌}
use mathlib.Core.Bool.{Bool, true, false, not}
use mathlib.Core.List.{List}
use mathlib.Core.Path.{◌≡◌}
use lib.Dec.{ltb}
use lib.ListN.{length, get_or}
use borrow.Author.Tests.{not-true, not-false, lt-ltb, le-ltb, le-leb, lt-leb}
use Rattle.list_bytes.specs.ListBytes.{text_byte, looks_like_text}

module _ (bs : List ℕ) {x : ℕ} {t : Bool} (ex : x ≡ get_or bs 0 0) (et : t ≡ text_byte x) where
  pub not-begun : not t ≡ true → false ≡ looks_like_text bs
  unfolding looks_like_text
  not-begun e = rw (← ex, ← et, not-true t e)

  module _ (e : not t ≡ false) where
    pub begun-short : length bs < 8 → true ≡ looks_like_text bs
    unfolding looks_like_text
    begun-short h = rw (← ex, ← et, not-false t e, lt-ltb (length bs) 8 h)

    module _ (h : 8 ≤ length bs) {y : ℕ} (ey : y ≡ get_or bs 6 0) where
      pub as_a_list : y < 9 → false ≡ looks_like_text bs
      unfolding looks_like_text
      as_a_list l = rw (← ex, ← et, not-false t e, le-ltb (length bs) 8 h, ← ey, lt-leb 9 y l)

      pub by-eighth : 9 ≤ y → {z : ℕ} → z ≡ get_or bs 7 0 → ltb z 128 ≡ looks_like_text bs
      unfolding looks_like_text
      by-eighth l ez = rw (← ex, ← et, not-false t e, le-ltb (length bs) 8 h, ← ey, le-leb 9 y l, ← ez)
