-- One number, more than one, and a faulty text. One law for each.
use Rattle.arguments.proofs.ArgumentLaws.{argument-faulty, argument-one, argument-more}
use Rattle.arguments.proofs.number_of.Goals as goal

pub returns-in-Ok : goal.returns-in-Ok
returns-in-Ok c = argument-one c.scan.ensures c.in-Ok.is c.if-found-eq1.true

pub returns-in_default : goal.returns-in_default
returns-in_default c = argument-more c.scan.ensures c.in-Ok.is c.if-found-eq1.false

pub returns-in_default-2 : goal.returns-in_default-2
returns-in_default-2 c = argument-faulty c.scan.ensures c.in_default.is
