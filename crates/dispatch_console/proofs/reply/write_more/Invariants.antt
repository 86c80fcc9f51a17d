use Rattle.std.proofs.Common.{take}
use Rattle.std.specs.Fmt.{IsPlainFormatter, HasWritten}
use Rattle.dispatch_console.specs.Texts.{more_text}
use Rattle.dispatch_console.proofs.reply.write_more.Given as goal

abbrev pub invariant-loop-visit : goal.invariant-loop-visit
invariant-loop-visit g l = IsPlainFormatter l.initial.f → HasWritten g.W.Write.write_str_gives l.initial.f (more_text (take l.visit-index l.visits)) l.f
