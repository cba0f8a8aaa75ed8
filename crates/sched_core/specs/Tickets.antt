-- Tickets: leave to work on a unit, or to check it, which only a claim gives.
use Rattle.std.specs.Prelude.{ℕ, Option, Some, None}
use Rattle.sched_core.specs.declared.event.Event.{Event}
use Rattle.sched_core.specs.declared.event.Event.TheVariants as event
use Rattle.sched_core.specs.declared.event.Kind.TheVariants as kind
use Rattle.sched_core.specs.declared.ticket.Ticket.{Ticket}
use Rattle.sched_core.specs.declared.ticket.Ticket.TheVariants as ticket

-- the ticket that an event gives
abbrev pub ticket_of : Event ℕ ℕ → Option Ticket
ticket_of (event.Claim w u kind.Work) = Some (ticket.Work (record { worker = w; unit = u }))
ticket_of (event.Claim w u kind.Check) = Some (ticket.Check (record { worker = w; unit = u }))
ticket_of _ = None
