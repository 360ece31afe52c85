-- `needs_pass`: whether the checks of all words of needs pass.
-- Invariant: where `pass` still holds, those of the first r registers do.
use Rattle.std.proofs.Common.{◌≡◌, ℕ, ◌<◌, ◌≤◌, true}
use Rattle.refusals.specs.Checks.{no_fault, first_fault}
use Rattle.list_format.specs.Lists.{need_checks}
use Rattle.delay_list.proofs.Layout.needs_pass.Given as goal

abbrev pub invariant-loop-r : goal.invariant-loop-r
invariant-loop-r l = (l.r ≤ l.self.needs) × (l.pass ≡ true → (i : ℕ) → i < l.r → first_fault (need_checks l.self.words.now i) ≡ no_fault)
