-- Defines what a running day is at a moment, and what each request changes in it and is answered.
use Rattle.std.specs.Prelude.{◌≡◌, ℕ, ◌+◌, ◌*◌, cond, ◌&&◌, List, Some, None, Err, vec_items, Option, nat_le}
use Rattle.console.specs.Lines as console
use Rattle.console.specs.Tallies.{counted}
use Rattle.console.specs.declared.reply.Reply.{Reply as PlainReply}
use Rattle.console.specs.declared.reply.Reply.TheVariants.{Nothing, NotUnderstood}
use Rattle.console.specs.declared.tally.Tally.{Tally}
use Rattle.orders.specs.declared.Node.{Node}
use Rattle.orders.specs.Slabs.{slab_size}
use Rattle.fleet.specs.Answers.{Answer, accepted}
use Rattle.fleet.specs.declared.call.Call.{Call}
use Rattle.fleet.specs.declared.refusal.Refusal.{Refusal}
use Rattle.fleet.specs.declared.state.State.{State}
use Rattle.fleet.specs.Quotes.{quoted}
use Rattle.fleet.specs.Terms.{Terms}
use Rattle.outcomes.specs.Outcomes.{make_call}
use Rattle.outcomes.specs.Runs.{Does}
use Rattle.dispatch_console.specs.declared.command.Size.{Size}
use Rattle.dispatch_console.specs.declared.not_begun.NotBegun.{NotBegun}
use Rattle.dispatch_console.specs.declared.not_begun.NotBegun.TheVariants.{Refused, OutOfMemory}
use Rattle.dispatch_console.specs.declared.reply.Reply.{Reply}
use Rattle.dispatch_console.specs.declared.reply.Reply.TheVariants.{Plain, Help}
use Rattle.dispatch_console.specs.declared.session.Session.{Session}
use Rattle.dispatch_console.specs.Lines.{Asked, plain, help, nodes, make, call}
use Rattle.dispatch_console.specs.Replies.{answer_reply, quote_reply, refusal_reply}

-- the present state, the node memory, and the calls so far
pub record Moment : Type 0 where
  pub state : State
  pub memory : List Node
  pub tally : Tally

abbrev pub moment : {R S : Type 0} → Session R S → Moment
moment s = record { state = s.dispatcher.state; memory = vec_items s.nodes; tally = s.tally }

-- how many nodes a dispatcher is handed: those that were asked for, else just enough
abbrev pub nodes_given : Option ℕ → Size → ℕ
nodes_given (Some count) size = count
nodes_given None size = cond (nat_le 1 size.vans && nat_le size.vans 32) ((size.vans + 1) * slab_size size.open_limit) 0

-- what keeps a day over so many nodes from beginning, as long as there is memory: a refusal, which is what is answered
abbrev pub Prevents : Size → ℕ → NotBegun → Type 0
Prevents size count (Refused reply) = (f : Refusal) × (make_call size.vans size.open_limit count ≡ Err f) × (reply ≡ refusal_reply f)
Prevents size count (OutOfMemory e) = Unit {0}

-- a call goes to the dispatcher with the node memory; its answer is told, and counted
pub record Called (t : Terms) (c : Call) (m m' : Moment) (reply : Reply) : Type 0 where
  pub answer : Answer
  pub does : Does t c m.state m.memory answer m'.state m'.memory
  pub tally : m'.tally ≡ counted (accepted answer) m.tally
  pub told : reply ≡ answer_reply answer

-- what is answered to what a day without a dispatcher knows too: a quote is refused as a booking is, and to set up is not
-- due any more
abbrev pub attended : Terms → console.Asked → PlainReply
attended t console.nothing = Nothing
attended t console.unclear = NotUnderstood
attended t (console.table places seconds) = NotUnderstood
attended t (console.grid columns rows east south) = NotUnderstood
attended t (console.rule r) = NotUnderstood
attended t (console.quote from to figures) = quote_reply (quoted t.rules.places t.rules.trip t.promise from to figures)

-- what a request leads to while the dispatcher runs; to set up is not due any more
abbrev pub Attends : Terms → Moment → Asked → Moment → Reply → Type 0
Attends t m (plain a) m' reply = (m' ≡ m) × (reply ≡ Plain (attended t a))
Attends t m help m' reply = (m' ≡ m) × (reply ≡ Help)
Attends t m (nodes count) m' reply = (m' ≡ m) × (reply ≡ Plain NotUnderstood)
Attends t m (make size) m' reply = (m' ≡ m) × (reply ≡ Plain NotUnderstood)
Attends t m (call c) m' reply = Called t c m m' reply
