-- Defines how answers, refusals and quotes are told.
use Rattle.std.specs.Prelude.{Ok, Err, Result}
use Rattle.stowage.specs.declared.Promise.{Promise}
use Rattle.console.specs.declared.reply.Reply.{Reply as PlainReply}
use Rattle.console.specs.declared.reply.Reply.TheVariants.{Refused, Promised}
use Rattle.fleet.specs.Answers.{Answer}
use Rattle.fleet.specs.Refusals.{refusal_number, refusal_detail}
use Rattle.fleet.specs.declared.refusal.Refusal.{Refusal}
use Rattle.dispatch_console.specs.declared.reply.Reply.{Reply}
use Rattle.dispatch_console.specs.declared.reply.Reply.TheVariants.{Plain, Reported}

-- a refusal by its number and its detail
abbrev pub refused_plainly : Refusal → PlainReply
refused_plainly f = Refused (record { number = refusal_number f; detail = refusal_detail f })

abbrev pub refusal_reply : Refusal → Reply
refusal_reply f = Plain (refused_plainly f)

-- what was promised, or why nothing was
abbrev pub quote_reply : Result Promise Refusal → PlainReply
quote_reply (Ok p) = Promised p
quote_reply (Err f) = refused_plainly f

-- what a call was answered
abbrev pub answer_reply : Answer → Reply
answer_reply (Ok report) = Reported report
answer_reply (Err refusal) = refusal_reply refusal
