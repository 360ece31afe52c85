-- Reading a text byte by byte: the state and the places after each, as the invariant `Scanning` of the loop, and what the whole
-- text comes to.
use Prim.Native.Nat.{ℕ, ◌+◌, ◌-◌, ◌≤◌, ◌<◌}
use mathlib.Core.Bool.{Bool, true, false, cond, ◌&&◌, true≢false}
use mathlib.Core.List.{List, [], ◌∷◌, ◌++◌, append_assoc, append-nil}
use mathlib.Core.Path.{◌≡◌, refl, sym, ap, ◌∙◌}
use native.Mathlib.Numerals.{add-one}
use native.Mathlib.Omega.{arith}
use lib.Dec.{ltb, eqb}
use Rattle.std.specs.Prelude.{None, Some, is_some, Ok, Err}
use lib.ListN.{length, take, drop, get_or, set, length-append, length-drop, get_or-eq_default}
use lib.Seq.{take-suc, take-length, take_all}
use borrow.Author.Tests.{ltb-true, ltb-false, lt-ltb, le-ltb, eqb-true, eqb-false}
use Rattle.buffers.specs.Over.{over}
use Rattle.buffers.proofs.FillLaws.{Filled, filled_none, filled_put, filled-size, set-put}
use Rattle.scan.specs.declared.State.{State}
use Rattle.scan.specs.declared.FaultAt.{FaultAt}
use Rattle.scan.specs.declared.TextFault.{TextFault}
use Rattle.scan.specs.declared.TextFault.TheVariants.{BadByte, TooLong}
use Rattle.scan.specs.Scan.{Scanned, with_fault, numbers_of, result_with}
use Rattle.scan.specs.Scan.{max_numbers, text_bytes, is_blank, start, failed, number_ended, line_ended, step_in_line, step, end_fault, at_end, finished}
use Rattle.scan.specs.Scan.{kept, kept_in, after, ended, last, scanned_numbers, fault_index, faulty_at, mark_size, without_mark, scanned, stored_of}
use Rattle.scan.specs.Scan.{TextAs, ScanAs, StateIn, ScannedTo}
use Rattle.scan.proofs.CaseLaws.{end_none, step_stays}
use Rattle.scan.proofs.StateLaws.{Moves, Fair, fair-in, step-moves, finish-moves}

-- ---- runs of bytes strung together

pub after-append : (s : State) (xs ys : List ℕ) → after s (xs ++ ys) ≡ after (after s xs) ys
unfolding after
after-append s [] ys = refl
after-append s (x ∷ xs) ys = after-append (step s x) xs ys

pub ended-append : (s : State) (xs ys : List ℕ) → ended s (xs ++ ys) ≡ ended s xs ++ ended (after s xs) ys
unfolding after ended
ended-append s [] ys = refl
ended-append s (x ∷ xs) ys = rw (ended-append (step s x) xs ys, append_assoc)

-- one byte more
pub after_one : (s : State) (xs : List ℕ) (x : ℕ) → after s (xs ++ (x ∷ [])) ≡ step (after s xs) x
unfolding after
after_one s xs x = after-append s xs (x ∷ [])

pub ended-one : (s : State) (xs : List ℕ) (x : ℕ) → ended s (xs ++ (x ∷ [])) ≡ ended s xs ++ kept (after s xs) (step (after s xs) x)
unfolding ended
ended-one s xs x = rw (ended-append s xs (x ∷ []), append-nil)

-- ---- the number that ends on the way

module _ {s t : State} (m : Moves 1 s t) where
  pub kept-size : t.count ≡ s.count + length (kept s t)
  unfolding kept
  kept-size = go (ltb s.count t.count) refl
    where
      go : (b : Bool) → ltb s.count t.count ≡ b → t.count ≡ s.count + length (cond b (s.value ∷ []) [])
      go true e = omega (arith, ltb-true s.count t.count e, m.high)
      go false e = omega (arith, ltb-false s.count t.count e, m.low)

  pub kept-filled : {xs was now : List ℕ} → max_numbers ≤ length was → s.count ≡ length xs → Filled xs was now
      → Filled (xs ++ kept s t) was (kept_in s t now)
  unfolding kept kept_in
  kept-filled {xs} {was} {now} room size f = go (ltb s.count t.count) refl
    where
      go : (b : Bool) → ltb s.count t.count ≡ b
          → Filled (xs ++ cond b (s.value ∷ []) []) was (cond b (set now s.count s.value) now)
      go true e =
          let below : s.count < length was = omega (arith, ltb-true s.count t.count e, m.most) in
          let below' : s.count < length now = omega (arith, filled-size f) in
          filled_put f (s.value ∷ []) (set now s.count s.value) size (omega arith) (set-put now s.count s.value below')
      go false e = rw append-nil f

-- ---- the loop

-- i bytes of bs were read, into places that held `was` and hold `now`
pub record Scanning (lined : Bool) (bs was now : List ℕ) (s : State) (i : ℕ) : Type 0 where
  pub bound : i ≤ length bs
  pub state : s ≡ after (start lined) (take i bs)
  pub fair : Fair s
  pub size : s.count ≡ length (ended (start lined) (take i bs))
  pub places : Filled (ended (start lined) (take i bs)) was now

module _ {lined : Bool} {bs was : List ℕ} where
  pub scanning-start : {s : State} → s ≡ start lined → Scanning lined bs was was s 0
  unfolding after ended
  scanning-start {s} e =
      record {
        bound = omega arith;
        state = e;
        fair = rw e (record { needs = omega arith; first = omega arith; most = omega arith });
        size = rw e;
        places = filled_none was;
      }

  module _ {now : List ℕ} {s : State} {i : ℕ} (w : Scanning lined bs was now s i) where
    pub scanning-in : StateIn s
    scanning-in = record { needs = w.fair.needs; first = w.fair.first; count = w.fair.most }

    pub scanning-size : length now ≡ length was
    scanning-size = filled-size w.places

    pub scanning-turn : {t : State} {now' : List ℕ} → max_numbers ≤ length was → i < length bs
        → t ≡ step s (get_or bs i 0) → now' ≡ kept_in s t now → Scanning lined bs was now' t (i + 1)
    scanning-turn {t} {now'} room b e e' =
        let byte : ℕ = get_or bs i 0 in
        let m : Moves 1 s t = rw e (step-moves s w.fair byte) in
        let one : take (i + 1) bs ≡ take i bs ++ (byte ∷ []) = rw (add-one i, take-suc bs i 0 b) in
        let more = ended-one (start lined) (take i bs) byte in
        let there : ended (start lined) (take (i + 1) bs) ≡ ended (start lined) (take i bs) ++ kept s t = rw (one, more, ← w.state, e) in
        record {
          bound = omega arith;
          state = rw (one, after_one (start lined) (take i bs) byte, ← w.state) e;
          fair = record { needs = m.needs; first = m.first; most = m.most };
          size = rw (there, length-append) (omega (arith, kept-size m, w.size));
          places = rw (there, e') (kept-filled m room w.size w.places);
        }

    pub scanning-end : length bs ≤ i → ScannedTo lined bs was now s
    scanning-end l =
        let e : i ≡ length bs = omega (arith, w.bound) in
        let all : take i bs ≡ bs = rw (e, take-length bs) in
        record {
          state = rw all at w.state;
          within = scanning-in;
          size = rw all at w.size;
          places = rw all at w.places.is;
        }

-- ---- the whole text

-- a text that ends well holds a number
end-some : (s : State) → is_some (at_end s).fault ≡ false → 0 < (at_end s).count
unfolding at_end
end-some s = go (is_some s.fault) refl (eqb s.count 0) refl
  where
    go : (b : Bool) → is_some s.fault ≡ b → (b' : Bool) → eqb s.count 0 ≡ b'
        → is_some (cond b s (with_fault s (end_fault s))).fault ≡ false → 0 < (cond b s (with_fault s (end_fault s))).count
    go true e b' e' h = absurd (true≢false (sym e ∙ h))
    go false e true e' h = absurd (true≢false (rw (← end_none s (eqb-true s.count 0 e')) at h))
    go false e false e' h = omega (arith, eqb-false s.count 0 e')

finish-some : (s : State) → is_some (finished s).fault ≡ false → 0 < (finished s).count
unfolding finished
finish-some s = go (is_some s.fault) refl
  where
    go : (b : Bool) → is_some s.fault ≡ b → is_some (cond b s (at_end (line_ended (number_ended s)))).fault ≡ false
        → 0 < (cond b s (at_end (line_ended (number_ended s)))).count
    go true e h = absurd (true≢false (sym e ∙ h))
    go false e h = end-some (line_ended (number_ended s)) h

module _ {lined : Bool} {ts was : List ℕ} {mid now : List ℕ} {s t : State} (room : max_numbers ≤ length was)
    (w : ScannedTo lined ts was mid s) (e : t ≡ finished s) (e' : now ≡ kept_in s t mid) where
  moved : Moves 1 s t
  moved = rw e (finish-moves s (fair-in w.within))

  here : t ≡ last lined ts
  here = rw w.state at e

  all : scanned_numbers lined ts ≡ ended (start lined) ts ++ kept s t
  all = rw (← here, ← w.state)

  filled : Filled (ended (start lined) ts ++ kept s t) was now
  filled =
      let fits : length (ended (start lined) ts) ≤ length was = omega (arith, w.size, w.within.count) in
      rw e' (kept-filled moved {xs = ended (start lined) ts} {now = mid} room w.size (record { room = fits; is = w.places }))

  size : t.count ≡ length (scanned_numbers lined ts)
  size = rw (all, length-append) (omega (arith, kept-size moved, w.size))

  stored : now ≡ over (scanned_numbers lined ts) was
  stored = rw all filled.is

  pub text-faulty : {f : FaultAt} {fault : TextFault} {i : ℕ} → t.fault ≡ Some fault → i ≡ fault_index lined ts → f ≡ faulty_at fault ts i
      → TextAs lined ts was now (Err f)
  unfolding result_with
  text-faulty wrong at a =
      record {
        answer = rw (← here, wrong, ← at, a);
        stored = stored;
        counted = λ n told. (let z : ◌≡◌ {A = ℕ} 0 1 = cc in absurd (omega arith));
      }

  pub text-numbers : t.fault ≡ None → TextAs lined ts was now (Ok (numbers_of t))
  unfolding result_with
  text-numbers ok =
      record {
        answer = rw (← here, ok);
        stored = stored;
        counted =
            λ n told. (let same : n ≡ numbers_of t = cc in
            let none : is_some (finished s).fault ≡ false = rw (← e, ok) in
            let some : 0 < t.count = rw e (finish-some s none) in
            rw same (record { size = size; some = omega (arith, moved.needs, moved.first); most = moved.most }));
      }

-- ---- the mark

-- the bytes of a mark, by whether each of its three is there
unfoldable mark_if : Bool → Bool → Bool → ℕ
mark_if a b c = cond (a && (b && c)) 3 0

no_third : (a b : Bool) → mark_if a b false ≡ 0
unfolding mark_if
no_third true true = refl
no_third true false = refl
no_third false b = refl

pub mark_few : (bs : List ℕ) → length bs < 3 → mark_size bs ≡ 0
unfolding mark_size mark_if
mark_few bs h =
    let third : get_or bs 2 0 ≡ 0 = get_or-eq_default bs 0 (omega arith) in
    rw third (no_third (eqb (get_or bs 0 0) 239) (eqb (get_or bs 1 0) 187))

three : (b : Bool) → cond b 3 0 ≤ 3
three true = omega arith
three false = omega arith

-- a mark stands in the text
pub mark-fits : (bs : List ℕ) → mark_size bs ≤ length bs
unfolding mark_size
mark-fits bs = go (ltb (length bs) 3) refl
  where
    most : mark_size bs ≤ 3
    most = three (eqb (get_or bs 0 0) 239 && (eqb (get_or bs 1 0) 187 && eqb (get_or bs 2 0) 191))

    go : (b : Bool) → ltb (length bs) 3 ≡ b → mark_size bs ≤ length bs
    go true e = rw (mark_few bs (ltb-true (length bs) 3 e)) (omega arith)
    go false e = omega (arith, ltb-false (length bs) 3 e, most)

-- a fault stays
pub after-stays : (s : State) (bs : List ℕ) → is_some s.fault ≡ true → after s bs ≡ s
unfolding after
after-stays s [] h = refl
after-stays s (b ∷ bs) h = rw (← step_stays s b h) (after-stays s bs h)

-- a text that reads well from its first byte on has no mark
pub no-mark : (lined : Bool) (bs : List ℕ) → (after (start lined) bs).fault ≡ None → mark_size bs ≡ 0
unfolding after mark_size mark_if step step_in_line is_blank
no-mark lined [] h = refl
no-mark lined (b ∷ bs) h = go (eqb b 239) refl
  where
    go : (c : Bool) → eqb b 239 ≡ c → mark_if c (eqb (get_or bs 0 0) 187) (eqb (get_or bs 1 0) 191) ≡ 0
    go false e = refl
    go true e =
        let first : step (start lined) b ≡ failed (start lined) BadByte = rw (eqb-true b 239 e) in
        let stays : after (step (start lined) b) bs ≡ failed (start lined) BadByte = rw first (after-stays (failed (start lined) BadByte) bs refl) in
        absurd (true≢false (sym (ap (λ (s : State). is_some s.fault) stays) ∙ ap is_some h))

-- ---- the whole text

-- the part after the mark, as it is lent
pub lent_is : (bs : List ℕ) (from : ℕ) → take (length bs - from) (drop from bs) ≡ drop from bs
lent_is bs from = take_all (length bs - from) (drop from bs) (rw length-drop (omega arith))

pub lent-short : (bs : List ℕ) (from : ℕ) → length bs ≤ text_bytes → length (take (length bs - from) (drop from bs)) ≤ text_bytes
lent-short bs from h = rw (lent_is bs from, length-drop) (omega arith)

module _ {lined : Bool} {bs was : List ℕ} where
  pub scan-long : {r : Scanned} → text_bytes < length bs → r ≡ Err (faulty_at TooLong bs text_bytes) → ScanAs lined bs was was r
  unfolding scanned stored_of
  scan-long h a =
      let long = lt-ltb text_bytes (length bs) h in
      record {
        answer = rw long a;
        stored = rw long;
        counted = λ n e. (let z : ◌≡◌ {A = ℕ} 0 1 = cc in absurd (omega arith));
      }

  pub scan-short : {now : List ℕ} {r : Scanned} {from : ℕ} → length bs ≤ text_bytes → from ≡ mark_size bs
      → TextAs lined (take (length bs - from) (drop from bs)) was now r → ScanAs lined bs was now r
  unfolding scanned stored_of
  scan-short {now} {r} {from} h e told =
      let short = le-ltb text_bytes (length bs) h in
      let text : take (length bs - from) (drop from bs) ≡ without_mark bs = rw (lent_is bs from, e) in
      let a : TextAs lined (without_mark bs) was now r = rw text at told in
      record { answer = rw short a.answer; stored = rw short a.stored; counted = λ n c. rw short (a.counted n c) }
