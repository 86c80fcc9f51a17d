-- Defines the text of each reply.
use Rattle.std.specs.Prelude.{ℕ, cond, List, [], ◌∷◌, ◌++◌, take, codes, decimal, ◌==◌}
use Rattle.std.specs.List.{flat_map}
use Rattle.console.specs.Replies.{reply_text as plain_text}
use Rattle.van_slab.specs.declared.Itinerary.{Itinerary}
use Rattle.van_slab.specs.declared.Visit.{Visit}
use Rattle.van_slab.specs.Trails.{kind_told}
use Rattle.fleet.specs.declared.call.Booked.{Booked}
use Rattle.fleet.specs.declared.call.Report.{Report}
use Rattle.fleet.specs.declared.call.Report.TheVariants as report
use Rattle.orders.specs.declared.StopKind.{StopKind}
use Rattle.orders.specs.declared.StopKind.TheVariants.{Pickup, DropOff}
use Rattle.dispatch_console.specs.declared.reply.Reply.{Reply}
use Rattle.dispatch_console.specs.declared.reply.Reply.TheVariants as reply

-- the van, the price there, and the seconds of the two stops
abbrev pub booked_text : Booked → List ℕ
booked_text b =
    codes "van " ++ (decimal b.van
    ++ (codes " price " ++ (decimal b.price
    ++ (codes " pickup " ++ (decimal b.pickup
    ++ (codes " drop " ++ decimal b.dropoff))))))

-- what a stop is called
abbrev pub kind_text : StopKind → List ℕ
kind_text Pickup = codes "pickup"
kind_text DropOff = codes "drop"

-- how late a stop was served, and how far its ride was over its limit
abbrev pub served_text : StopKind → (late over : ℕ) → List ℕ
served_text kind late over = kind_text kind ++ (codes " late " ++ (decimal late ++ (codes " over " ++ decimal over)))

-- a stop after a mark
abbrev pub stop_text : List ℕ → Visit → List ℕ
stop_text mark v = mark ++ (decimal v.booking ++ (codes " " ++ (kind_text (kind_told v.kind) ++ (codes " " ++ decimal v.second))))

-- stops, each after a comma
abbrev pub more_text : List Visit → List ℕ
more_text vs = flat_map (stop_text (codes ", ")) vs

-- stops, the first after a colon and each other one after a comma
abbrev pub stops_text : List Visit → List ℕ
stops_text [] = []
stops_text (v ∷ vs) = stop_text (codes ": ") v ++ more_text vs

-- an order's cost, how many stops it has, and these
abbrev pub itinerary_text : Itinerary → List ℕ
itinerary_text i = (codes "cost " ++ (decimal i.cost ++ (codes " stops " ++ decimal i.stops))) ++ stops_text (take i.stops i.visits)

-- what an accepted call reports
abbrev pub report_text : Report → List ℕ
report_text report.Done = codes "done"
report_text (report.Booked b) = booked_text b
report_text (report.Served kind late over) = served_text kind late over
report_text (report.Listed i) = itinerary_text i

-- what the program knows
abbrev pub help_text : List ℕ
help_text =
    (codes "set up: table,P,n,.. grid,W,H,E,S rule,passengers rule,parcels nodes,N make,V,K" ++ (10 ∷ []))
    ++ ((codes "ask: quote,from,to,f1,f2,f3,f4,f5,f6" ++ (10 ∷ []))
    ++ ((codes "call: clock,T join,van,place,T leave,van book,number,from,to,f1,f2,f3,f4,f5,f6" ++ (10 ∷ []))
    ++ codes "call: bound,van,place,T served,van,number,T cancel,number plan,van order,van,i"))

-- what is printed for a reply
abbrev pub reply_text : Reply → List ℕ
reply_text (reply.Plain r) = plain_text r
reply_text reply.Help = help_text
reply_text (reply.Reported r) = report_text r
