-- The numbers of a text, in the first places of a buffer.
use Prim.Native.Nat.{ℕ, ◌≤◌, ◌<◌}
use mathlib.Core.Bool.{Bool, true, false}
use mathlib.Core.List.{List, [], ◌∷◌}
use mathlib.Core.Path.{◌≡◌, refl, sym}
use native.Mathlib.Omega.{arith}
use lib.Dec.{ltb}
use lib.ListN.{length, get_or, take}
use borrow.Author.Tests.{ltb-false}
use Rattle.buffers.specs.Over.{over}
use Rattle.buffers.proofs.FillLaws.{filled-front, filled-fits}
use Rattle.std.specs.Prelude.{Ok}
use Rattle.scan.specs.declared.Numbers.{Numbers}
use Rattle.scan.specs.Scan.{Scanned, text_bytes, stored_of, ScanAs}

over-head : (xs was : List ℕ) → 0 < length xs → get_or (over xs was) 0 0 ≡ get_or xs 0 0
over-head [] was h = absurd (omega arith)
over-head (x ∷ xs) was h = refl

none-stored : (lined : Bool) (text : List ℕ) → ltb text_bytes (length text) ≡ true → length (stored_of lined text) ≡ 0
unfolding stored_of
none-stored lined text l = rw l

module _ {lined : Bool} {text was now : List ℕ} {r : Scanned} (a : ScanAs lined text was now r)
    {n : Numbers} (e : r ≡ Ok n) where
  pub stored-size : length (stored_of lined text) ≡ n.count
  stored-size = sym (a.counted n e).size

  pub stored-front : take n.count now ≡ stored_of lined text
  stored-front = filled-front (stored_of lined text) was stored-size a.stored

  -- they can be lent
  pub stored-fits : n.count ≤ length now
  stored-fits = filled-fits (stored_of lined text) was stored-size a.stored

  pub stored-lent : n.count ≡ length (take n.count now)
  stored-lent = rw stored-front (sym stored-size)

  pub stored_some : 0 < length (stored_of lined text)
  stored_some = omega (arith, stored-size, (a.counted n e).some)

  -- the text is not too long
  pub stored_short : length text ≤ text_bytes
  stored_short = go (ltb text_bytes (length text)) refl
    where
      go : (b : Bool) → ltb text_bytes (length text) ≡ b → length text ≤ text_bytes
      go false l = ltb-false text_bytes (length text) l
      go true l =
          let none : length (stored_of lined text) ≡ 0 = none-stored lined text l in
          absurd (omega (arith, stored_some, none))

  -- the first of them
  pub stored-first : get_or now 0 0 ≡ get_or (stored_of lined text) 0 0
  stored-first = rw a.stored (over-head (stored_of lined text) was stored_some)
