-- A booking's six figures are judged in their order, and the first bad one is named.
use Rattle.std.specs.Prelude.{ℕ, ◌+◌, ◌-◌, Bool, true, false, T, List, [], ◌∷◌, Some, None, Ok, Err, Option, Result, slice_index}
use Rattle.stowage.specs.declared.BadFigure.{BadFigure}
use Rattle.stowage.specs.declared.Promise.{Promise}

-- the seconds of a week
abbrev pub week : ℕ
week = 604800

-- the figure at a position from 1
abbrev pub figure : ℕ → List ℕ → ℕ
figure position figures = slice_index figures (position - 1)

-- nothing where a check passed, else what it refuses with
abbrev pub required : {E : Type 0} → Bool → E → Result (Unit {0}) E
required true error = Ok tt
required false error = Err error

-- the promise, if every test passes; the tests are of the figures from this position on
abbrev pub judged : ℕ → List Bool → Promise → Result Promise BadFigure
judged position [] p = Ok p
judged position (true ∷ tests) p = judged (position + 1) tests p
judged position (false ∷ tests) p = Err (record { position = position })

-- what is made where a test passes
abbrev pub when : {X : Type 0} → (b : Bool) → (T b → X) → Option X
when true make = Some (make tt)
when false make = None
