-- Defines the number and the detail by which faults are refused, and their text.
use Rattle.std.specs.Prelude.{ℕ, cond, List, ◌++◌, codes, decimal, ◌==◌}
use Rattle.roads.specs.Faults.{fault_number, fault_detail}
use Rattle.roads.specs.declared.RoadFault.{RoadFault}
use Rattle.quotes.specs.declared.QuoteFault.{QuoteFault}
use Rattle.quotes.specs.declared.QuoteFault.TheVariants.{Place, Figure}
use Rattle.console.specs.declared.refusal.Refusal.{Refusal}

-- how a fault of roads is reported
abbrev pub road_refusal : RoadFault → Refusal
road_refusal f = record { number = fault_number f; detail = fault_detail f }

-- how a fault of a quote is reported
abbrev pub quote_refusal : QuoteFault → Refusal
quote_refusal (Place place) = record { number = 11; detail = place }
quote_refusal (Figure position) = record { number = 17; detail = position }

-- a refusal's number, and its detail where it has one
abbrev pub refusal_text : Refusal → List ℕ
refusal_text r = cond (r.detail == 0)
    (codes "refused " ++ decimal r.number)
    (codes "refused " ++ (decimal r.number ++ (codes " detail " ++ decimal r.detail)))
