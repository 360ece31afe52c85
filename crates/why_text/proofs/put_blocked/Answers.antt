-- `put_blocked`: the register, and then both chains.
use Rattle.why_text.proofs.StepLaws.{blocked-put}
use Rattle.why_text.proofs.put_blocked.Goals as goal

pub returns : goal.returns
returns c =
    blocked-put c.args.blocked.register c.args.blocked.first c.args.blocked.second c.args.steps.now c.requires.shown_in c.args.period c.offset_at-offset.ensures
    c.put_register-a.ensures c.put_chain-b.ensures c.put_chain.ensures
