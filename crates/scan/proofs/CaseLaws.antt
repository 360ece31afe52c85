-- The definitions of one byte's reading, case by case.
use Prim.Native.Nat.{ℕ, ◌+◌, ◌-◌, ◌*◌, ◌≤◌, ◌<◌}
use mathlib.Core.Bool.{Bool, true, false, not, ◌&&◌}
use mathlib.Core.List.{List}
use mathlib.Core.Path.{◌≡◌, refl}
use lib.Dec.{eqb}
use Rattle.std.specs.Prelude.{Option, None, Some, is_some}
use lib.ListN.{set}
use borrow.Author.Tests.{not-true, not-false, lt-ltb, le-ltb, eq-eqb, ne_eqb}
use Rattle.text_pieces.specs.Pieces.{zero_byte, nine_byte, newline}
use Rattle.scan.specs.declared.State.{State}
use Rattle.scan.specs.declared.TextFault.{TextFault}
use Rattle.scan.specs.declared.TextFault.TheVariants.{BadByte, LargeNumber, BadFirstLine, BadLine, TooManyNumbers, NoNumber, OtherPairs}
use Rattle.scan.specs.Scan.{max_numbers, max_value, is_blank, comment_byte, with_fault, failed, valued, with_digit}
use Rattle.scan.specs.Scan.{is_second, outside, number_ended, line_fault}
use Rattle.scan.specs.Scan.{need_line, needs_then, next_line, line_ended, commented, step_in_line, step, end_fault, at_end, finished, kept_in}

-- ---- the end of a line of a list

module _ (lined : Bool) (first needs count : ℕ) where
  -- ---- needs

  pub needs-unlined : not lined ≡ true → false ≡ need_line lined first needs count
  unfolding need_line
  needs-unlined e = rw (not-true lined e)

  module _ (e : not lined ≡ false) where
    pub needs-later : (first ≡ needs + 1 → ⊥) → false ≡ need_line lined first needs count
    unfolding need_line
    needs-later h = rw (not-false lined e, ne_eqb first (needs + 1) h)

    pub needs-early : first ≡ needs + 1 → eqb count (first + 2) ≡ need_line lined first needs count
    unfolding need_line
    needs-early h = rw (not-false lined e, eq-eqb first (needs + 1) h)

  -- by the count of its numbers alone a line can be seen not to hold needs
  pub needs-other : (count ≡ first + 2 → ⊥) → need_line lined first needs count ≡ false
  unfolding need_line
  needs-other h = rw (ne_eqb count (first + 2) h) (go lined (eqb first (needs + 1)))
    where
      go : (a b : Bool) → a && (b && false) ≡ false
      go true true = refl
      go true false = refl
      go false b = refl

  pub needs-more : need_line lined first needs count ≡ true → needs + 2 ≡ needs_then lined first needs count
  unfolding needs_then
  needs-more h = rw h

  pub needs-same : need_line lined first needs count ≡ false → needs ≡ needs_then lined first needs count
  unfolding needs_then
  needs-same h = rw h

  -- ---- what is wrong

  pub not-lined : not lined ≡ true → None ≡ line_fault lined first needs count
  unfolding line_fault
  not-lined e = rw (not-true lined e)

  module _ (e : not lined ≡ false) where
    pub blank-line : count ≡ first → None ≡ line_fault lined first needs count
    unfolding line_fault
    blank-line h = rw (not-false lined e, eq-eqb count first h)

    module _ (some : count ≡ first → ⊥) where
      pub first-line : first ≡ 0 → count ≡ 1 → None ≡ line_fault lined first needs count
      unfolding line_fault
      first-line z h = rw (not-false lined e, ne_eqb count first some, eq-eqb first 0 z, eq-eqb count 1 h)

      pub bad-first : first ≡ 0 → (count ≡ 1 → ⊥) → Some BadFirstLine ≡ line_fault lined first needs count
      unfolding line_fault
      bad-first z h = rw (not-false lined e, ne_eqb count first some, eq-eqb first 0 z, ne_eqb count 1 h)

      module _ (later : first ≡ 0 → ⊥) where
        pub pair_line_lem : count ≡ first + 4 → None ≡ line_fault lined first needs count
        unfolding line_fault
        pair_line_lem h = rw (not-false lined e, ne_eqb count first some, ne_eqb first 0 later, eq-eqb count (first + 4) h)

        module _ (other : count ≡ first + 4 → ⊥) where
          pub need-line : need_line lined first needs count ≡ true → None ≡ line_fault lined first needs count
          unfolding line_fault
          need-line h = rw (h, not-false lined e, ne_eqb count first some, ne_eqb first 0 later, ne_eqb count (first + 4) other)

          pub bad-line : need_line lined first needs count ≡ false → Some BadLine ≡ line_fault lined first needs count
          unfolding line_fault
          bad-line h = rw (h, not-false lined e, ne_eqb count first some, ne_eqb first 0 later, ne_eqb count (first + 4) other)

module _ (s : State) where
  -- ---- a number

  pub digit-large : (d : ℕ) → max_value < 10 * s.value + d → failed s LargeNumber ≡ with_digit s d
  unfolding with_digit
  digit-large d h = rw (lt-ltb max_value (10 * s.value + d) h)

  pub digit-more : (d : ℕ) → 10 * s.value + d ≤ max_value → valued s (10 * s.value + d) ≡ with_digit s d
  unfolding with_digit
  digit-more d h = rw (le-ltb max_value (10 * s.value + d) h)

  pub ended-outside : not s.inside ≡ true → s ≡ number_ended s
  unfolding number_ended
  ended-outside e = rw (not-true s.inside e)

  module _ (e : not s.inside ≡ false) where
    pub ended-second : is_second s ≡ true → outside s s.count (4 * s.value + 1) ≡ number_ended s
    unfolding number_ended is_second
    ended-second h = rw (not-false s.inside e, h)

    module _ (other : is_second s ≡ false) where
      pub ended-full : max_numbers ≤ s.count → failed s TooManyNumbers ≡ number_ended s
      unfolding number_ended is_second
      ended-full h = rw (not-false s.inside e, other, le-ltb s.count max_numbers h)

      pub ended-next : s.count < max_numbers → outside s (s.count + 1) s.promised ≡ number_ended s
      unfolding number_ended is_second
      ended-next h = rw (not-false s.inside e, other, lt-ltb s.count max_numbers h)

  -- ---- a line

  pub line_stays : is_some s.fault ≡ true → s ≡ line_ended s
  unfolding line_ended
  line_stays h = rw (h)

  module _ {wrong : Option TextFault} (ok : is_some s.fault ≡ false) (e : wrong ≡ line_fault s.lined s.first s.needs s.count) where
    pub line-fails : {fault : TextFault} → wrong ≡ Some fault → failed s fault ≡ line_ended s
    unfolding line_ended
    line-fails h = rw (ok, ← e, h)

    pub line-next : wrong ≡ None → next_line s ≡ line_ended s
    unfolding line_ended
    line-next h = rw (ok, ← e, h)

  -- ---- a byte in a line

  module _ (byte : ℕ) where
    pub in-blank : is_blank byte ≡ true → number_ended s ≡ step_in_line s byte
    unfolding step_in_line
    in-blank h = rw h

    module _ (a : is_blank byte ≡ false) where
      pub in-comment : byte ≡ comment_byte → commented (number_ended s) ≡ step_in_line s byte
      unfolding step_in_line
      in-comment h = rw (a, eq-eqb byte comment_byte h)

      module _ (b : byte ≡ comment_byte → ⊥) where
        pub in-low : byte < zero_byte → failed s BadByte ≡ step_in_line s byte
        unfolding step_in_line
        in-low h = rw (a, ne_eqb byte comment_byte b, lt-ltb byte zero_byte h)

        pub in-high : zero_byte ≤ byte → nine_byte < byte → failed s BadByte ≡ step_in_line s byte
        unfolding step_in_line
        in-high h l = rw (a, ne_eqb byte comment_byte b, le-ltb byte zero_byte h, lt-ltb nine_byte byte l)

        pub in-digit : zero_byte ≤ byte → byte ≤ nine_byte → with_digit s (byte - zero_byte) ≡ step_in_line s byte
        unfolding step_in_line
        in-digit h l = rw (a, ne_eqb byte comment_byte b, le-ltb byte zero_byte h, le-ltb nine_byte byte l)

  -- ---- a byte

  pub step_stays : (byte : ℕ) → is_some s.fault ≡ true → s ≡ step s byte
  unfolding step
  step_stays byte h = rw (h)

  module _ (byte : ℕ) (ok : is_some s.fault ≡ false) where
    pub step-newline : byte ≡ newline → line_ended (number_ended s) ≡ step s byte
    unfolding step
    step-newline h = rw (ok, eq-eqb byte newline h)

    module _ (a : byte ≡ newline → ⊥) where
      pub step-comment : s.comment ≡ true → s ≡ step s byte
      unfolding step
      step-comment h = rw (ok, ne_eqb byte newline a, h)

      pub step_line : s.comment ≡ false → step_in_line s byte ≡ step s byte
      unfolding step
      step_line h = rw (ok, ne_eqb byte newline a, h)

  -- ---- the end

  pub end_none : s.count ≡ 0 → Some NoNumber ≡ end_fault s
  unfolding end_fault
  end_none h = rw (eq-eqb s.count 0 h)

  module _ (some : s.count ≡ 0 → ⊥) where
    pub end-silent : s.promised ≡ 0 → None ≡ end_fault s
    unfolding end_fault
    end-silent h = rw (ne_eqb s.count 0 some, eq-eqb s.promised 0 h)

    module _ (told : s.promised ≡ 0 → ⊥) where
      pub end_kept : s.count - s.needs ≡ s.promised → None ≡ end_fault s
      unfolding end_fault
      end_kept h = rw (ne_eqb s.count 0 some, ne_eqb s.promised 0 told, eq-eqb (s.count - s.needs) s.promised h)

      pub end-broken : (s.count - s.needs ≡ s.promised → ⊥) → Some OtherPairs ≡ end_fault s
      unfolding end_fault
      end-broken h = rw (ne_eqb s.count 0 some, ne_eqb s.promised 0 told, ne_eqb (s.count - s.needs) s.promised h)

  pub finish-stays : is_some s.fault ≡ true → s ≡ finished s
  unfolding finished
  finish-stays h = rw (h)

  module _ {last : State} (ok : is_some s.fault ≡ false) (e : last ≡ line_ended (number_ended s)) where
    pub finish-faulty : is_some last.fault ≡ true → last ≡ finished s
    unfolding finished at_end
    finish-faulty h = rw (ok, ← e, h)

    pub finish-ends : {wrong : Option TextFault} → is_some last.fault ≡ false → wrong ≡ end_fault last → with_fault last wrong ≡ finished s
    unfolding finished at_end
    finish-ends h w = rw (ok, ← e, h, w)

-- ---- the places

module _ (s t : State) (places : List ℕ) where
  pub kept-one : s.count < t.count → set places s.count s.value ≡ kept_in s t places
  unfolding kept_in
  kept-one h = rw (lt-ltb s.count t.count h)

  pub kept-none : t.count ≤ s.count → places ≡ kept_in s t places
  unfolding kept_in
  kept-none h = rw (le-ltb s.count t.count h)
