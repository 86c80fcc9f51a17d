-- Defines how the calls of a day are counted, and the last line of a day.
use Rattle.std.specs.Prelude.{ℕ, ◌+◌, ◌-◌, ◌^◌, min, Bool, true, false, List, ◌++◌, codes, decimal}
use Rattle.console.specs.declared.tally.Tally.{Tally}

-- a day before its first call
abbrev pub no_calls : Tally
no_calls = record { calls = 0; accepted = 0; refused = 0; alike = 0 }

-- one more, as far as 64 bits go
abbrev pub one_more : ℕ → ℕ
one_more n = min (n + 1) (2 ^ 64 - 1)

-- a call is accepted or refused
abbrev pub counted : Bool → Tally → Tally
counted true t = record { calls = one_more t.calls; accepted = one_more t.accepted; refused = t.refused; alike = t.alike }
counted false t = record { calls = one_more t.calls; accepted = t.accepted; refused = one_more t.refused; alike = t.alike }

-- the last line of a day
abbrev pub tally_text : Tally → List ℕ
tally_text t =
    decimal t.calls ++ (codes " calls: "
    ++ (decimal t.accepted ++ (codes " accepted, "
    ++ (decimal t.refused ++ (codes " refused; office and depot alike on "
    ++ decimal t.alike)))))
