-- Defines how refusals and quotes are told, and the text of each reply.
use Rattle.std.specs.Prelude.{ℕ, List, [], ◌++◌, codes, decimal, Ok, Err, Result}
use Rattle.quotes.specs.declared.QuoteFault.{QuoteFault}
use Rattle.stowage.specs.declared.Promise.{Promise}
use Rattle.console.specs.declared.refusal.Refusal.{Refusal}
use Rattle.console.specs.declared.reply.Reply.{Reply}
use Rattle.console.specs.declared.reply.Reply.TheVariants.{Nothing, NotUnderstood, Done, Refused, Promised}
use Rattle.console.specs.Refusals.{quote_refusal, refusal_text}

-- a reply, or that the line is refused
abbrev pub or_refused : Result Reply Refusal → Reply
or_refused (Ok reply) = reply
or_refused (Err refusal) = Refused refusal

-- how a quote is answered
abbrev pub told : Result Promise QuoteFault → Reply
told (Ok p) = Promised p
told (Err f) = Refused (quote_refusal f)

-- the load, the two time windows and the ride limit
abbrev pub promise_text : Promise → List ℕ
promise_text p =
    codes "load " ++ (decimal p.load.first
    ++ (codes " " ++ (decimal p.load.second
    ++ (codes " pickup " ++ (decimal p.pickup.opens
    ++ (codes " to " ++ (decimal p.pickup.closes
    ++ (codes " drop " ++ (decimal p.dropoff.opens
    ++ (codes " to " ++ (decimal p.dropoff.closes
    ++ (codes " ride " ++ decimal p.ride_limit))))))))))))

-- what is printed for a reply
abbrev pub reply_text : Reply → List ℕ
reply_text Nothing = []
reply_text NotUnderstood = codes "not understood"
reply_text Done = codes "done"
reply_text (Refused r) = refusal_text r
reply_text (Promised p) = promise_text p
