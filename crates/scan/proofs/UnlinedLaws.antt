-- Numbers that need not stand in the lines of a list: no line is at fault, and none promises pairs, so that three of the faults do not occur.
use Prim.Native.Nat.{ℕ, ◌-◌, ◌*◌, ◌+◌}
use mathlib.Core.Bool.{Bool, true, false, cond}
use mathlib.Core.List.{List, [], ◌∷◌}
use mathlib.Core.Path.{◌≡◌, refl}
use lib.Dec.{ltb, eqb}
use lib.ListN.{length}
use Rattle.text_pieces.specs.Pieces.{zero_byte, nine_byte, newline}
use Rattle.scan.specs.declared.State.{State}
use Rattle.std.specs.Prelude.{Option, None, Some, is_some, Ok, Err, ⊤}
use Rattle.scan.specs.declared.FaultAt.{FaultAt}
use Rattle.scan.specs.declared.TextFault.{TextFault}
use Rattle.scan.specs.declared.TextFault.TheVariants.{BadByte, LargeNumber, BadFirstLine, BadLine, TooManyNumbers, NoNumber, TooLong, OtherPairs}
use Rattle.scan.specs.Scan.{max_numbers, max_value, text_bytes, is_blank, comment_byte, start, with_fault, failed, with_digit}
use Rattle.scan.specs.Scan.{is_second, number_ended, line_fault}
use Rattle.scan.specs.Scan.{line_ended, step_in_line, step, end_fault, at_end, finished, after, last}
use Rattle.scan.specs.Scan.{fault_index, faulty_at, without_mark, scanned, Scanned, result_with}

-- not that a line is wrong, nor that there are other pairs than the first line says
abbrev pub no_line : TextFault → Bool
no_line BadFirstLine = false
no_line BadLine = false
no_line OtherPairs = false
no_line BadByte = true
no_line LargeNumber = true
no_line TooManyNumbers = true
no_line NoNumber = true
no_line TooLong = true

abbrev pub NoLine : Option TextFault → Type 0
NoLine None = ⊤
NoLine (Some fault) = no_line fault ≡ true

record Unlined (s : State) : Type 0 where
  lined : s.lined ≡ false
  promised : s.promised ≡ 0
  fault : NoLine s.fault

either : {x y : State} (b : Bool) → Unlined x → Unlined y → Unlined (cond b x y)
either true p q = p
either false p q = q

module _ (s : State) (u : Unlined s) where
  failed-unlined : (fault : Option TextFault) → NoLine fault → Unlined (with_fault s fault)
  failed-unlined fault n = record { lined = u.lined; promised = u.promised; fault = n }

  digit-unlined : (d : ℕ) → Unlined (with_digit s d)
  unfolding with_digit
  digit-unlined d =
      either (ltb max_value (10 * s.value + d)) (failed-unlined (Some LargeNumber) refl)
      (record { lined = u.lined; promised = u.promised; fault = tt })

  not-second : is_second s ≡ false
  unfolding is_second
  not-second = rw u.lined

  ended-unlined : Unlined (number_ended s)
  unfolding number_ended
  ended-unlined =
      rw not-second
      (either s.inside
      (either (ltb s.count max_numbers) (record { lined = u.lined; promised = u.promised; fault = tt })
      (failed-unlined (Some TooManyNumbers) refl))
      u)

  no-fault : line_fault s.lined s.first s.needs s.count ≡ None
  unfolding line_fault
  no-fault = rw u.lined

  line-unlined : Unlined (line_ended s)
  unfolding line_ended
  line-unlined = either (is_some s.fault) u (rw no-fault (record { lined = u.lined; promised = u.promised; fault = tt }))

  end-no-line : NoLine (end_fault s)
  unfolding end_fault
  end-no-line = rw u.promised (go (eqb s.count 0))
    where
      go : (b : Bool) → NoLine (cond b (Some NoNumber) None)
      go true = refl
      go false = tt

  end-unlined : Unlined (at_end s)
  unfolding at_end
  end-unlined = either (is_some s.fault) u (failed-unlined (end_fault s) end-no-line)

module _ (s : State) (u : Unlined s) where
  in-unlined : (byte : ℕ) → Unlined (step_in_line s byte)
  unfolding step_in_line
  in-unlined byte =
      let wrong : Unlined (failed s BadByte) = failed-unlined s u (Some BadByte) refl in
      let ended = ended-unlined s u in
      either (is_blank byte) ended
      (either (eqb byte comment_byte) (record { lined = ended.lined; promised = ended.promised; fault = ended.fault })
      (either (ltb byte zero_byte) wrong (either (ltb nine_byte byte) wrong (digit-unlined s u (byte - zero_byte)))))

  step-unlined : (byte : ℕ) → Unlined (step s byte)
  unfolding step
  step-unlined byte =
      either (is_some s.fault) u
      (either (eqb byte newline) (line-unlined (number_ended s) (ended-unlined s u)) (either s.comment u (in-unlined byte)))

  finish-unlined : Unlined (finished s)
  unfolding finished
  finish-unlined = either (is_some s.fault) u (end-unlined (line_ended (number_ended s)) (line-unlined (number_ended s) (ended-unlined s u)))

after-unlined : (s : State) → Unlined s → (bs : List ℕ) → Unlined (after s bs)
unfolding after
after-unlined s u [] = u
after-unlined s u (b ∷ bs) = after-unlined (step s b) (step-unlined s u b) bs

last-unlined : (bs : List ℕ) → Unlined (last false bs)
last-unlined bs = finish-unlined (after (start false) bs) (after-unlined (start false) (record { lined = refl; promised = refl; fault = tt }) bs)

-- what a text comes to
abbrev pub FairFault : Scanned → Type 0
FairFault (Ok n) = ⊤
FairFault (Err f) = no_line f.fault ≡ true

scanned-unlined : (bs : List ℕ) → FairFault (scanned false bs)
unfolding scanned result_with
scanned-unlined bs = go (ltb text_bytes (length bs)) (last false ts).fault (last-unlined ts).fault
  where
    ts : List ℕ
    ts = without_mark bs

    go : (b : Bool) (fault : Option TextFault) → NoLine fault → FairFault (cond b (Err (faulty_at TooLong bs text_bytes))
        (result_with fault (last false ts) ts (fault_index false ts)))
    go true fault h = refl
    go false None h = tt
    go false (Some fault) h = h

pub no-line-fault : (bs : List ℕ) {f : FaultAt} → scanned false bs ≡ Err f → no_line f.fault ≡ true
no-line-fault bs {f} e =
    let fair : FairFault (Err f) = rw e at (scanned-unlined bs) in
    fair
