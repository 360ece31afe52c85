-- How far one byte, or the end of the text, moves the reading of it: a number at most, and never past the limits.
use Prim.Native.Nat.{ℕ, ◌+◌, ◌-◌, ◌*◌, ◌≤◌}
use mathlib.Core.Bool.{Bool, true, false, cond, ◌&&◌}
use mathlib.Core.Path.{◌≡◌, refl}
use native.Mathlib.Omega.{arith}
use lib.Dec.{ltb, eqb}
use Rattle.std.specs.Prelude.{Option, Some, is_some}
use borrow.Author.Tests.{ltb-true, eqb-true}
use Rattle.text_pieces.specs.Pieces.{zero_byte, nine_byte, newline}
use Rattle.scan.specs.declared.State.{State}
use Rattle.scan.specs.declared.TextFault.{TextFault}
use Rattle.scan.specs.declared.TextFault.TheVariants.{BadByte, LargeNumber, TooManyNumbers}
use Rattle.scan.specs.Scan.{max_numbers, max_value, is_blank, comment_byte, with_fault, failed, with_digit, is_second, outside, number_ended, line_fault}
use Rattle.scan.specs.Scan.{need_line, needs_then, line_ended, commented, step_in_line, step, end_fault, at_end, finished, StateIn}

-- at most k numbers further
pub record Moves (k : ℕ) (s t : State) : Type 0 where
  pub low : s.count ≤ t.count
  pub high : t.count ≤ s.count + k
  pub needs : t.needs ≤ t.first - 1
  pub first : t.first ≤ t.count
  pub most : t.count ≤ max_numbers

-- a state from which reading can go on
pub record Fair (s : State) : Type 0 where
  pub needs : s.needs ≤ s.first - 1
  pub first : s.first ≤ s.count
  pub most : s.count ≤ max_numbers

fair : {k : ℕ} {s t : State} → Moves k s t → Fair t
fair m = record { needs = m.needs; first = m.first; most = m.most }

then : {k k' : ℕ} {s t u : State} → Moves k s t → Moves k' t u → Moves (k + k') s u
then a b =
    record {
      low = omega (arith, a.low, b.low);
      high = omega (arith, a.high, b.high);
      needs = b.needs;
      first = b.first;
      most = b.most;
    }

one : {s t : State} → Moves 0 s t → Moves 1 s t
one m = record { low = m.low; high = omega (arith, m.high); needs = m.needs; first = m.first; most = m.most }

either : {k : ℕ} {s x y : State} (b : Bool) → Moves k s x → Moves k s y → Moves k s (cond b x y)
either true p q = p
either false p q = q

module _ (s : State) (f : Fair s) where
  stay : Moves 0 s s
  stay = record { low = omega arith; high = omega arith; needs = f.needs; first = f.first; most = f.most }

  -- what a move does not look at may change
  failed-moves : (fault : Option TextFault) → Moves 0 s (with_fault s fault)
  failed-moves fault = record { low = omega arith; high = omega arith; needs = f.needs; first = f.first; most = f.most }

  comment-moves : Moves 0 s (commented s)
  comment-moves = record { low = omega arith; high = omega arith; needs = f.needs; first = f.first; most = f.most }

  digit-moves : (d : ℕ) → Moves 0 s (with_digit s d)
  unfolding with_digit
  digit-moves d =
      either (ltb max_value (10 * s.value + d)) (failed-moves (Some LargeNumber))
      (record { low = omega arith; high = omega arith; needs = f.needs; first = f.first; most = f.most })

  pub ended-moves : Moves 1 s (number_ended s)
  unfolding number_ended
  ended-moves =
      either s.inside
      (either (is_second s) (record { low = omega arith; high = omega arith; needs = f.needs; first = f.first; most = f.most })
      (go (ltb s.count max_numbers) refl))
      (one stay)
    where
      go : (b : Bool) → ltb s.count max_numbers ≡ b → Moves 1 s (cond b (outside s (s.count + 1) s.promised) (failed s TooManyNumbers))
      go true e =
          let below = ltb-true s.count max_numbers e in
          record { low = omega arith; high = omega arith; needs = f.needs; first = omega (arith, f.first); most = omega arith }
      go false e = one (failed-moves (Some TooManyNumbers))

  -- a line of needs leaves one number beside them at least
  needs-few : needs_then s.lined s.first s.needs s.count ≤ s.count - 1
  unfolding needs_then need_line
  needs-few = go s.lined (eqb s.first (s.needs + 1)) refl (eqb s.count (s.first + 2)) refl
    where
      go : (a b : Bool) → eqb s.first (s.needs + 1) ≡ b → (c : Bool) → eqb s.count (s.first + 2) ≡ c
          → cond (a && (b && c)) (s.needs + 2) s.needs ≤ s.count - 1
      go true true e true e' = omega (arith, eqb-true s.first (s.needs + 1) e, eqb-true s.count (s.first + 2) e')
      go true true e false e' = omega (arith, f.needs, f.first)
      go true false e c e' = omega (arith, f.needs, f.first)
      go false b e c e' = omega (arith, f.needs, f.first)

  line-moves : Moves 0 s (line_ended s)
  unfolding line_ended
  line-moves =
      let wrong : Option TextFault = line_fault s.lined s.first s.needs s.count in
      either (is_some s.fault) stay
      (either (is_some wrong) (failed-moves wrong)
      (record { low = omega arith; high = omega arith; needs = needs-few; first = omega arith; most = f.most }))

end-moves : (s : State) → Fair s → Moves 0 s (at_end s)
unfolding at_end
end-moves s f = either (is_some s.fault) (stay s f) (failed-moves s f (end_fault s))

module _ (s : State) (f : Fair s) where
  pub both-moves : Moves 1 s (line_ended (number_ended s))
  both-moves = then (ended-moves s f) (line-moves (number_ended s) (fair (ended-moves s f)))

  in-moves : (byte : ℕ) → Moves 1 s (step_in_line s byte)
  unfolding step_in_line
  in-moves byte =
      let wrong : Moves 1 s (failed s BadByte) = one (failed-moves s f (Some BadByte)) in
      either (is_blank byte) (ended-moves s f)
      (either (eqb byte comment_byte) (then (ended-moves s f) (comment-moves (number_ended s) (fair (ended-moves s f))))
      (either (ltb byte zero_byte) wrong
      (either (ltb nine_byte byte) wrong (one (digit-moves s f (byte - zero_byte))))))

  pub step-moves : (byte : ℕ) → Moves 1 s (step s byte)
  unfolding step
  step-moves byte =
      let same : Moves 1 s s = one (stay s f) in
      either (is_some s.fault) same (either (eqb byte newline) both-moves (either s.comment same (in-moves byte)))

  pub finish-moves : Moves 1 s (finished s)
  unfolding finished
  finish-moves =
      let ended = both-moves in
      either (is_some s.fault) (one (stay s f)) (then ended (end-moves (line_ended (number_ended s)) (fair ended)))

pub fair-in : {s : State} → StateIn s → Fair s
fair-in i = record { needs = i.needs; first = i.first; most = i.count }

moves-in : {k : ℕ} {s t : State} → Moves k s t → StateIn t
moves-in m = record { needs = m.needs; first = m.first; count = m.most }

pub ended-in : (s : State) → StateIn s → StateIn (number_ended s)
ended-in s i = moves-in (ended-moves s (fair-in i))

pub both-in : (s : State) → StateIn s → StateIn (line_ended (number_ended s))
both-in s i = moves-in (both-moves s (fair-in i))

pub step_in : (s : State) (byte : ℕ) → StateIn s → StateIn (step s byte)
step_in s byte i = moves-in (step-moves s (fair-in i) byte)
