-- What is shown of an accepted list is read back to the same bytes: each line is read to the two needs of its register (`two-reads`) or to the
-- four numbers of its pair (`four-reads`), the whole text to the needs and the numbers of the list, and those write the same words
-- (`read_back` of list_format), which converting keeps (`accepted-kept`). Where there are no lines of needs, all needs are 0, and are taken to be.
use Prim.Native.Nat.{ℕ, zero, suc, ◌+◌, ◌-◌, ◌*◌, ◌^◌, ◌≤◌, ◌<◌}
use mathlib.Core.Bool.{Bool, true, false}
use mathlib.Core.List.{List, [], ◌∷◌, ◌++◌, append-nil}
use mathlib.Core.Path.{◌≡◌, refl, sym, ◌∙◌, ap}
use native.Mathlib.Omega.{arith}
use lib.Dec.{ltb, eqb}
use lib.ListN.{length, get_or, drop, length-append}
use lib.Seq.{take_at, drop_at, ext_get_or}
use borrow.Author.Tests.{le-ltb, eq-eqb, ne_eqb}
use Rattle.buffers.specs.Run.{run}
use Rattle.buffers.specs.Over.{zeros}
use Rattle.buffers.proofs.RunLaws.{run_length, run-most}
use Rattle.buffers.proofs.PadLaws.{run-same, zeros-size, zero-at}
use Rattle.words.specs.Bytes.{byte_bits, to_bytes}
use Rattle.refusals.specs.Reply.{done, told}
use Rattle.refusals.proofs.CheckLaws.{pass-both}
use Rattle.refusals.proofs.ReplyLaws.{answered-done, one_passes}
use Rattle.list_format.specs.Lists.{registers, pair_count, hold_at, setup_at, two_at, needs_of, no_needs}
use Rattle.list_format.specs.Lists.{written_at, list_checks, IsAccepted}
use Rattle.list_format.specs.Read.{four_of, numbers_of, read_places, read_checks, reading}
use Rattle.list_format.specs.Write.{given_needs}
use Rattle.list_format.proofs.NeedsLaws.{need-zero, needs-length}
use Rattle.list_format.proofs.ListLaws.{ListIn, list-ascends, accepted-in, accepted→none, needs-within}
use Rattle.list_format.proofs.ReadBack.{numbers-length, count-is, number_at, hold-is, setup-is, read_back}
use Rattle.list_format.proofs.WriteBack.{given-none, given-all}
use Rattle.text_pieces.specs.Pieces.{number, space, newline}
use Rattle.text_pieces.proofs.DecimalLaws.{decimal-few}
use Rattle.scan.specs.declared.State.{State}
use Rattle.std.specs.Prelude.{None, Ok}
use Rattle.scan.specs.Scan.{max_numbers, max_value, text_bytes, start, is_second, number_ended, need_line, line_fault, line_ended, finished}
use Rattle.scan.specs.Scan.{result_with, kept, after, last, mark_size, scanned, stored_of}
use Rattle.scan.proofs.CaseLaws.{needs-other, needs-early, needs-more, needs-same, blank-line, pair_line_lem, need-line, line-next, end_kept, finish-ends}
use Rattle.scan.proofs.ScanLaws.{no-mark}
use Rattle.scan.proofs.ReadsLaws.{Reads, reads_none, reads_then, at, reads-space, reads-newline, reads-promise, not-second}
use Rattle.text_pieces.specs.Saying.{text as say_text, bytes_of}
use Rattle.refusal_text.specs.RefusalText.{refused_saying}
use Rattle.list_bytes.specs.ListBytes.{max_words, list_of}
use Rattle.convert_text.specs.ConvertText.{list_bytes}
use Rattle.convert_text.proofs.ConvertTextLaws.{needs-most, accepted-kept, accepted-bytes}
use Rattle.list_text.specs.ListText.{two_line, four_line, needs_line, pair_line, text_of, list_numbers, shown_said, shown_text}
use Rattle.list_text.specs.ListText.{needs_given, made_of, made}
use Rattle.refusals.specs.declared.Refusal.TheVariants.{Room}

-- a number of at most k digits, with the byte that ends it
short : (k n end : ℕ) → n < 10 ^ suc k → length (number n end) ≤ k + 2
short k n end h = rw length-append (omega (arith, decimal-few k n h))

-- the line of a register's needs, after `needs` others
two-reads : (needs promised a b : ℕ) → needs + 3 ≤ max_numbers → a ≤ max_value → b ≤ max_value
    → Reads (at true (needs + 1) needs (needs + 1) promised) (two_line a b) (a ∷ b ∷ []) (at true (needs + 3) (needs + 2) (needs + 3) promised)
two-reads needs promised a b room ha hb =
    let first : ℕ = needs + 1 in
    let end : first + 1 + 1 ≡ needs + 3 = omega arith in
    let is : need_line true first needs (first + 1 + 1) ≡ true = sym (needs-early true first needs (first + 1 + 1) refl refl)
    ∙ eq-eqb (first + 1 + 1) (first + 2) (omega arith) in
    let fit = need-line true first needs (first + 1 + 1) refl (λ e. omega arith) (λ e. omega arith) (λ e. omega arith) is in
    rw end at
    (reads_then (reads-space true first needs first promised a ha (not-second first needs first promised a (omega arith)) (omega arith))
    (reads-newline true first needs (first + 1) promised b hb (not-second first needs (first + 1) promised b (omega arith)) (omega arith) fit
    (needs-more true first needs (first + 1 + 1) is)))

-- the line of a pair, after `count` numbers
four-reads : (count needs promised a b c d : ℕ) → 0 < count → count + 4 ≤ max_numbers
    → a ≤ max_value → b ≤ max_value → c ≤ max_value → d ≤ max_value
    → Reads (at true count needs count promised) (four_line a b c d) (a ∷ b ∷ c ∷ d ∷ []) (at true (count + 4) needs (count + 4) promised)
four-reads count needs promised a b c d some room ha hb hc hd =
    let four : count + 1 + 1 + 1 + 1 ≡ count + 4 = omega arith in
    let fit : None ≡ line_fault true count needs (count + 1 + 1 + 1 + 1) = pair_line_lem true count needs (count + 1 + 1 + 1 + 1) refl (λ e. omega arith)
    (λ e. omega arith) four in
    let other = needs-other true count needs (count + 1 + 1 + 1 + 1) (λ e. omega arith) in
    rw four at
    (reads_then (reads-space true count needs count promised a ha (not-second count needs count promised a some) (omega arith))
    (reads_then (reads-space true count needs (count + 1) promised b hb (not-second count needs (count + 1) promised b some) (omega arith))
    (reads_then (reads-space true count needs (count + 1 + 1) promised c hc (not-second count needs (count + 1 + 1) promised c some) (omega arith))
    (reads-newline true count needs (count + 1 + 1 + 1) promised d hd (not-second count needs (count + 1 + 1 + 1) promised d some) (omega arith) fit
    (needs-same true count needs (count + 1 + 1 + 1 + 1) other)))))

-- the end of a text between two lines, after as many numbers beside the needs as are promised
end_is : (count needs promised : ℕ) → 0 < promised → count - needs ≡ promised
    → at true count needs count promised ≡ finished (at true count needs count promised)
unfolding number_ended
end_is count needs promised some e =
    let s = at true count needs count promised in
    let other = needs-same true count needs count (needs-other true count needs count (λ z. omega arith)) in
    let next : s ≡ line_ended s = rw (← other) at (line-next s refl (blank-line true count needs count refl refl) refl) in
    finish-ends s refl next refl (end_kept s (λ z. omega arith) (λ z. omega arith) e)

-- needs that are all 0
zeros-are : (ys : List ℕ) (k : ℕ) → length ys ≡ k → no_needs ys ≡ true → zeros k ≡ ys
zeros-are ys k size none =
    let same : length (zeros k) ≡ length ys = zeros-size k ∙ sym size in
    ext_get_or 0 (zeros k) ys same (λ i h. zero-at k i ∙ sym (need-zero ys none i))

module _ (ws : List ℕ) (l : ListIn ws) where
  register_line : ℕ → List ℕ
  register_line r = two_line (hold_at ws r) (setup_at ws r)

  four_at : ℕ → List ℕ
  four_at k = four_of (written_at ws k)

  line_at : ℕ → List ℕ
  line_at k = four_line (written_at ws k).launch (written_at ws k).capture (written_at ws k).least (written_at ws k).greatest

  -- the lines of the needs and of the numbers are those of the registers and of the pairs
  register-is : (r : ℕ) → r < registers ws → needs_line (needs_of ws) r ≡ register_line r
  unfolding register_line
  register-is r h = rw (hold-is ws h, setup-is ws h)

  line-is : (k : ℕ) → k < pair_count ws → pair_line (numbers_of ws) k ≡ line_at k
  unfolding line_at
  line-is k h =
      let nth = number_at ws k h in
      let z : 4 * k + 0 ≡ 4 * k = omega arith in
      rw (rw z at (nth 0 (omega arith)), nth 1 (omega arith), nth 2 (omega arith), nth 3 (omega arith))

  registers-read : (promised r : ℕ) → r ≤ registers ws
      → Reads (at true 1 0 1 promised) (run register_line r) (run (two_at ws) r) (at true (2 * r + 1) (2 * r) (2 * r + 1) promised)
  unfolding run register_line
  registers-read promised zero h = reads_none (at true 1 0 1 promised)
  registers-read promised (suc r) h =
      let most = l.head.most in
      let v = needs-within ws l r in
      let e : 2 * r + 2 ≡ 2 * suc r = omega arith in
      let e' : 2 * r + 3 ≡ 2 * suc r + 1 = omega arith in
      reads_then (registers-read promised r (omega arith))
      (rw (e', e) at
      (two-reads (2 * r) promised (hold_at ws r) (setup_at ws r) (omega arith) (omega (arith, v.hold)) (omega (arith, v.setup))))

  lines-read : (needs promised k : ℕ) → needs ≤ 2 * registers ws → k ≤ pair_count ws
      → Reads (at true (needs + 1) needs (needs + 1) promised) (run line_at k) (run four_at k)
      (at true (needs + (4 * k + 1)) needs (needs + (4 * k + 1)) promised)
  unfolding run line_at four_at
  lines-read needs promised zero less h = reads_none (at true (needs + 1) needs (needs + 1) promised)
  lines-read needs promised (suc k) less h =
      let v = (l.values k h).values in
      let few = l.head.few in
      let most = l.head.most in
      let e : needs + (4 * k + 1) + 4 ≡ needs + (4 * suc k + 1) = omega arith in
      let p = written_at ws k in
      reads_then (lines-read needs promised k less (omega arith))
      (rw e at
      (four-reads (needs + (4 * k + 1)) needs promised p.launch p.capture p.least p.greatest (omega arith) (omega arith)
      (omega (arith, v.launch)) (omega (arith, v.capture)) (omega (arith, v.order, v.limit)) (omega (arith, v.limit))))

  words-fit : length ws ≤ max_words
  words-fit = omega (arith, l.head.size, l.head.few, l.head.most, needs-most ws)

  -- ---- the text, with so many lines of needs

  module _ (lines : ℕ) (given : lines ≡ given_needs (registers ws) (needs_of ws)) (few-lines : lines ≤ registers ws) where
    text : List ℕ
    text = text_of (registers ws) (numbers_of ws) (needs_of ws)

    text-is : text ≡ two_line (registers ws) (pair_count ws) ++ (run register_line lines ++ run line_at (pair_count ws))
    unfolding text text_of
    text-is = rw (
      ← given,
      count-is ws,
      run-same (needs_line (needs_of ws)) register_line lines (λ r h. register-is r (omega arith)),
      run-same (pair_line (numbers_of ws)) line_at (pair_count ws) line-is,
    )

    -- its numbers after the first, and how many there are in all
    rest : List ℕ
    rest = run (two_at ws) lines ++ numbers_of ws

    total : ℕ
    total = 2 * lines + (4 * pair_count ws + 1)

    text-reads : Reads (start true) text (registers ws ∷ rest) (at true total (2 * lines) total (4 * pair_count ws + 1))
    unfolding is_second four_at total rest
    text-reads =
        let m = pair_count ws in
        rw text-is
        (reads_then
        (reads_then (reads-space true 0 0 0 0 (registers ws) (omega (arith, l.head.most)) refl (omega arith)) (reads-promise m (omega (arith, l.head.few))))
        (reads_then (registers-read (4 * m + 1) lines few-lines) (lines-read (2 * lines) (4 * m + 1) m (omega arith) (omega arith))))

    -- it is not too long: a register, a count or a need has at most 4 digits, a delay 7, so a line has at most 24 bytes
    text-short : length text ≤ text_bytes
    unfolding register_line line_at
    text-short =
        let N = number (registers ws) space in
        let M = number (pair_count ws) newline in
        let R = run register_line lines in
        let L = run line_at (pair_count ws) in
        rw text-is
        (omega (
          arith,
          l.head.few,
          l.head.most,
          short 2 (registers ws) space (omega (arith, l.head.most)),
          short 3 (pair_count ws) newline (omega (arith, l.head.few)),
          run-most register_line 10 lines register-short,
          run-most line_at 24 (pair_count ws) line-short,
          length-append (N ++ M) (R ++ L),
          length-append N M,
          length-append R L,
        ))
      where
        register-short : (r : ℕ) → r < lines → length (register_line r) ≤ 10
        register-short r h =
            let v = needs-within ws l r in
            let A = number (hold_at ws r) space in
            let B = number (setup_at ws r) newline in
            let a = short 3 (hold_at ws r) space (omega (arith, v.hold)) in
            let b = short 3 (setup_at ws r) newline (omega (arith, v.setup)) in
            omega (arith, length-append A B, a, b)

        line-short : (k : ℕ) → k < pair_count ws → length (line_at k) ≤ 24
        line-short k h =
            let v = (l.values k h).values in
            let most = l.head.most in
            let p = written_at ws k in
            let a = short 2 p.launch space (omega (arith, v.launch)) in
            let b = short 2 p.capture space (omega (arith, v.capture)) in
            let c = short 6 p.least space (omega (arith, v.order, v.limit)) in
            let d = short 6 p.greatest newline (omega (arith, v.limit)) in
            let A = number p.launch space in
            let B = number p.capture space in
            let C = number p.least space in
            let D = number p.greatest newline in
            omega (arith, length-append A (B ++ (C ++ D)), length-append B (C ++ D), length-append C D, a, b, c, d)

    -- ---- read again

    after_is : at true total (2 * lines) total (4 * pair_count ws + 1) ≡ after (start true) text
    after_is = sym text-reads.state

    last-is : at true total (2 * lines) total (4 * pair_count ws + 1) ≡ last true text
    unfolding total
    last-is = end_is total (2 * lines) (4 * pair_count ws + 1) (omega arith) (omega arith) ∙ ap finished after_is

    -- it has no mark
    whole : mark_size text ≡ 0
    whole = no-mark true text (ap (λ (s : State). s.fault) (sym after_is))

    scan-is : scanned true text ≡ Ok (record { count = total; needs = 2 * lines })
    unfolding scanned result_with
    scan-is = rw (le-ltb text_bytes (length text) text-short, whole, ← last-is)

    kept-none : kept (after (start true) text) (last true text) ≡ []
    unfolding kept
    kept-none = rw (← last-is, ← after_is, le-ltb total total (omega arith))

    stored_is : stored_of true text ≡ registers ws ∷ rest
    unfolding stored_of
    stored_is = rw (le-ltb text_bytes (length text) text-short, whole, kept-none, append-nil, text-reads.numbers)

    two_size : length (run (two_at ws) lines) ≡ 2 * lines
    two_size = run_length (two_at ws) 2 (λ r. refl) lines

    numbers-are : drop (2 * lines) rest ≡ numbers_of ws
    unfolding rest
    numbers-are = drop_at (run (two_at ws) lines) (numbers_of ws) (2 * lines) two_size

    made-with : IsAccepted ws → needs_given (2 * lines) (registers ws) rest ≡ needs_of ws
        → made text ≡ list_bytes (to_bytes ws (length ws))
    unfolding made_of told
    made-with a e =
        let rise = list-ascends ws (accepted→none ws a).none in
        rw (scan-is, stored_is, numbers-are, e, read_back ws l false (λ z. rise) max_words words-fit) (accepted-kept ws a words-fit)

  -- without lines of needs, and with one for each register
  pub made-is : IsAccepted ws → made (text_of (registers ws) (numbers_of ws) (needs_of ws)) ≡ list_bytes (to_bytes ws (length ws))
  unfolding text rest needs_given
  made-is a = go (no_needs (needs_of ws)) refl
    where
      go : (b : Bool) → no_needs (needs_of ws) ≡ b → made (text_of (registers ws) (numbers_of ws) (needs_of ws)) ≡ list_bytes (to_bytes ws (length ws))
      go true e =
          made-with 0 (sym (given-none (registers ws) (needs_of ws) e)) (omega arith) a
          (zeros-are (needs_of ws) (2 * registers ws) (needs-length ws) e)
      go false e =
          let n = registers ws in
          let some : eqb (2 * n) 0 ≡ false = ne_eqb (2 * n) 0 (λ z. omega (arith, l.head.some)) in
          made-with n (sym (given-all n (needs_of ws) e)) (omega arith) a
          (rw some (take_at (needs_of ws) (numbers_of ws) (2 * n) (needs-length ws)))

-- what is shown of an accepted list
shown-is : (ws : List ℕ) → IsAccepted ws
    → told refused_saying shown_said (reading ws list_numbers) ≡ say_text (text_of (registers ws) (numbers_of ws) (needs_of ws))
unfolding told reading
shown-is ws a =
    let n = registers ws in
    let m = pair_count ws in
    let l = accepted-in ws a in
    let room = one_passes Room 0 (le-ltb list_numbers (read_places n m) (omega (arith, l.head.few, l.head.most))) in
    let pass = pass-both (list_checks ws) ((ltb list_numbers (read_places n m), Room, 0) ∷ []) (accepted→none ws a).none room in
    let xs = take_at (numbers_of ws) (needs_of ws) (4 * m) (numbers-length ws) in
    let ys = drop_at (numbers_of ws) (needs_of ws) (4 * m) (numbers-length ws) in
    rw (answered-done (read_checks ws list_numbers) (done (n ∷ m ∷ []) (numbers_of ws ++ needs_of ws)) pass, xs, ys)

-- what is shown of the bytes of an accepted list makes a list again, of those bytes
pub shown-made : (bs : List ℕ) → ((i : ℕ) → get_or bs i 0 < 2 ^ byte_bits) → IsAccepted (list_of bs)
    → made (bytes_of (shown_text bs)) ≡ list_bytes bs
unfolding bytes_of
shown-made bs small a =
    let l = accepted-in (list_of bs) a in
    rw (shown-is (list_of bs) a) (made-is (list_of bs) l a ∙ ap list_bytes (accepted-bytes bs small a))
