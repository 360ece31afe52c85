-- The text of two chains: numbers that are short, the pair of a step, that each step of a chain is of a pair of the list, and both chains.
use Prim.Native.Nat.{ℕ, zero, suc, ◌+◌, ◌-◌, ◌*◌, ◌^◌, ◌≤◌, ◌<◌}
use mathlib.Core.Bool.{true, false}
use mathlib.Core.List.{List, [], ◌∷◌, ◌++◌}
use mathlib.Core.Path.{◌≡◌, sym, subst, ◌∙◌}
use native.Mathlib.Omega.{arith}
use lib.ListN.{length, get_or, take, drop, length-append}
use Rattle.timing.specs.declared.Pair.{Pair}
use Rattle.timing.proofs.RuleLaws.{and-true}
use Rattle.timing.specs.Rules.{pair}
use Rattle.list_format.specs.Lists.{registers, pairs, PairIn, IsPair, IsUsable}
use Rattle.free_laws.specs.Free.{common}
use Rattle.split_laws.specs.Choices.{is_late, row_launch, row_capture}
use Rattle.chain_laws.proofs.ChainLaws.{stands-step}
use Rattle.blocking.proofs.StepLaws.{pairs-length, pairs-at}
use Rattle.chain_laws.specs.Chains.{node, index_of, row_of, step_pair, stands, next, leads, Chains, Blocks}
use Rattle.text_pieces.specs.Pieces.{Put, letters, decimal, named}
use Rattle.text_pieces.proofs.DecimalLaws.{decimal-few}
use Rattle.text_pieces.proofs.PutLaws.{put_then, put-within}
use Rattle.refusal_text.specs.RefusalText.{colon}
use Rattle.why_text.specs.WhyText.{short_width, step_width, register_width, way_width, step_places, why_places}
use Rattle.why_text.specs.WhyText.{choices_words, step_line, chain_text, register_line, blocked_text, StepsIn, chains_in, ShownIn}

-- a number below 10,000 has at most four digits
pub put-short : (name : List ℕ) (n end : ℕ) {w : ℕ} {was now : List ℕ} {at next : ℕ} → n < 10 ^ 4 → Put w (named name n end) was at now next
    → Put (length name + short_width) (named name n end) was at now next
put-short name n end h put =
    let few : length (decimal n) ≤ 4 = decimal-few 3 n h in
    let most : length (named name n end) ≤ length name + short_width =
    rw (length-append name (decimal n ++ (end ∷ [])), length-append (decimal n) (end ∷ [])) (omega (arith, few)) in
    put-within put most

module _ (ws : List ℕ) where
  -- ---- the line of a step, from its pair and its choices
  pub step-put : (t s e : ℕ) {p : Pair} {a b w at next : ℕ} {was now : List ℕ} → PairIn ws (index_of e) → IsPair ws (index_of e) p
      → a ≡ row_launch (row_of e) → b ≡ row_capture (row_of e)
      → Put w (named (letters "pair ") (index_of e) colon ++ choices_words t s p (is_late a) (is_late b)) was at now next
      → Put w (step_line t s (pairs ws) e) was at now next
  unfolding step_line
  step-put t s e {p} {a} {b} {w} {at} {next} {was} {now} here is ea eb put =
      let same : p ≡ step_pair (pairs ws) e = is.same ∙ sym (pairs-at ws (pair 0 0 0 0) (index_of e) here.below) in
      let piece : Pair → ℕ → ℕ → List ℕ = λ q x y. named (letters "pair ") (index_of e) colon ++ choices_words t s q (is_late x) (is_late y) in
      let there : piece p a b ≡ piece (step_pair (pairs ws) e) (row_launch (row_of e)) (row_capture (row_of e)) = rw (same, ea, eb) in
      subst (λ (z : List ℕ). Put w z was at now next) there put

  -- ---- the steps of a chain that leads somewhere

  leads-below : (t s : ℕ) (es : List ℕ) (x y : ℕ) → leads t s (pairs ws) es x y ≡ true → (i : ℕ) → i < length es
      → index_of (get_or es i 0) < length (pairs ws)
  unfolding leads
  leads-below t s [] x y h i l = absurd (omega arith)
  leads-below t s (e ∷ es) x y h zero l =
      (stands-step t s (pairs ws) e x (and-true (stands t s (pairs ws) e x) (leads t s (pairs ws) es (next (pairs ws) e x) y) h).0).place
  leads-below t s (e ∷ es) x y h (suc i) l =
      let rest = (and-true (stands t s (pairs ws) e x) (leads t s (pairs ws) es (next (pairs ws) e x) y) h).1 in
      leads-below t s es (next (pairs ws) e x) y rest i (omega arith)

  -- chains that block have steps of pairs of the list, and no more than there are places for
  pub shown-in : (t s : ℕ) (x : Chains) → IsUsable ws → Blocks (registers ws) t s (pairs ws) x → ShownIn ws x
  shown-in t s x u b =
      record {
        register = omega (arith, b.register, u.most);
        first = steps x.first (node x.register false) (node x.register true) b.first;
        second = steps x.second (node x.register true) (node x.register false) b.second;
        few = omega (arith, b.first_size.upto, b.second_size.upto, u.most);
      }
    where
      steps : (es : List ℕ) (y z : ℕ) → leads t s (pairs ws) es y z ≡ true → StepsIn ws es
      steps es y z h = record { usable = u; below = λ i l. rw (pairs-length ws) at (leads-below t s es y z h i l) }

-- ---- both chains, in the buffer that they stand in

-- the second stands between the first and the end
part-is : (first second : ℕ) → first + second - first ≡ second
part-is first second = omega arith

module _ {ws : List ℕ} (register first second : ℕ) (xs : List ℕ) (shown : ShownIn ws (chains_in register first second xs)) where
  pub second-in : StepsIn ws (take (first + second - first) (drop first xs))
  second-in = rw (part-is first second) shown.second

  pub second-few : length (take first xs) + length (take (first + second - first) (drop first xs)) ≤ step_places
  second-few = rw (part-is first second) shown.few

  pub blocked-put : (t : ℕ) {s a b last : ℕ} {was was₁ was₂ now : List ℕ} → s ≡ common (pairs ws) - t
      → Put register_width (register_line register) was 0 was₁ a
      → Put (way_width + step_width * length (take first xs)) (chain_text t s (pairs ws) false (take first xs)) was₁ a was₂ b
      → Put (way_width + step_width * length (take (first + second - first) (drop first xs)))
      (chain_text t s (pairs ws) true (take (first + second - first) (drop first xs))) was₂ b now last
      → Put why_places (blocked_text t (common (pairs ws) - t) (pairs ws) (chains_in register first second xs)) was 0 now last
  unfolding blocked_text
  blocked-put t e head one two =
      let all = rw (e, part-is first second) at (put_then head (put_then one two)) in
      put-within all (omega (arith, all.most, shown.few))
