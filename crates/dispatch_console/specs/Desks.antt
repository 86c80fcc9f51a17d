-- Defines what stands on the desk, and what each request changes and leads to.
use Rattle.std.specs.Prelude.{◌≡◌, ℕ, Some, None, Option, option_map}
use Rattle.console.specs.Desks as console
use Rattle.console.specs.declared.reply.Reply.{Reply as PlainReply}
use Rattle.console.specs.declared.reply.Reply.TheVariants as plainly
use Rattle.dispatch_console.specs.declared.command.Size.{Size}
use Rattle.dispatch_console.specs.declared.desk.Desk.{Desk}
use Rattle.dispatch_console.specs.declared.desk.Site.{Site}
use Rattle.dispatch_console.specs.declared.desk.Step.{Step}
use Rattle.dispatch_console.specs.declared.desk.Step.TheVariants.{Answered, Make}
use Rattle.dispatch_console.specs.declared.reply.Reply.TheVariants.{Plain, Help}
use Rattle.dispatch_console.specs.Lines.{Asked, plain, help, nodes, make, call}

-- the roads and the rule, and the number of nodes that stand, as far as they were given
pub record Setting : Type 0 where
  pub plain : console.Setting
  pub nodes : Option ℕ

abbrev pub setting : Desk → Setting
setting d = record { plain = console.setting d.plain; nodes = d.nodes }

-- the desk before its first line
abbrev pub unset : Setting
unset = record { plain = console.unset; nodes = None }

-- what a dispatcher is to be made of
pub record Standing : Type 0 where
  pub plain : console.Standing
  pub nodes : Option ℕ

abbrev pub standing : Site → Standing
standing x = record { plain = console.standing x.plain; nodes = x.nodes }

-- roads and rule, once both stand, and the number of nodes
abbrev pub stands : Setting → Option Standing
stands s = option_map (λ (x : console.Standing). record { plain = x; nodes = s.nodes }) (console.stands s.plain)

-- a dispatcher is made once roads and rule stand
abbrev pub make_step : Option Standing → Size → Step
make_step None size = Answered (Plain plainly.NotUnderstood)
make_step (Some x) size = Make size

-- what a request leads to from what stands; calls are not due yet
abbrev pub Obeys : Setting → Asked → Setting → Step → Type 0
Obeys s (plain a) s' step = (reply : PlainReply) × console.Obeys s.plain a s'.plain reply × (s'.nodes ≡ s.nodes) × (step ≡ Answered (Plain reply))
Obeys s help s' step = (s' ≡ s) × (step ≡ Answered Help)
Obeys s (nodes count) s' step = (s' ≡ record { plain = s.plain; nodes = Some count }) × (step ≡ Answered (Plain plainly.Done))
Obeys s (make size) s' step = (s' ≡ s) × (step ≡ make_step (stands s) size)
Obeys s (call c) s' step = (s' ≡ s) × (step ≡ Answered (Plain plainly.NotUnderstood))
