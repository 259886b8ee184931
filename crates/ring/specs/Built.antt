-- The built ring, its sweeps and its answers as the machine has them. Assumes nothing.
use Rattle.std.specs.Prelude.{ℕ, Some, None, Ok, Err, Option, Result}
use Rattle.std.specs.declared.ops.ControlFlow.{ControlFlow}
use Rattle.std.specs.declared.ops.ControlFlow.TheVariants.{Continue, Break}
use Rattle.grounds.specs.declared.Ground.{Ground}
use Rattle.grounds.specs.Grounds.{ground_number}
use Rattle.store.specs.declared.bank.Bank.{Ghosts as Banks}
use Rattle.letters.specs.declared.bag.Bag.{Ghosts as Bags}
use Rattle.letters.specs.declared.letter.Letter.{Letter}
use Rattle.machine.specs.States.{State, letter_sent}
use Rattle.machine.specs.Sweeps.{Sweep, collecting, collected, spreading, finished}
use Rattle.ring.specs.declared.ring.Ring.{Ring}
use Rattle.ring.specs.declared.sweep.Collecting.{Collecting}
use Rattle.ring.specs.declared.sweep.Collected.{Collected}
use Rattle.ring.specs.declared.sweep.Spreading.{Spreading}
use Rattle.ring.specs.declared.sweep.Finished.{Finished}
use Rattle.ring.specs.declared.sweep.Refused.{Refused}
use Rattle.ring.specs.declared.press.Pressed.{Pressed}
use Rattle.ring.specs.declared.press.Pressed.TheVariants.{Asking, Telling}

-- what a built ring means
abbrev pub state_of : {K B G : Type 0} → Banks B K → Bags G (Letter K) → Ring K B G → State K
state_of b g r = record { copies = r.copies; heads = r.heads.table; stores = b.meanings r.stores; bag = g.mail r.bag }

-- each built state of a sweep
abbrev pub of_collecting : Collecting → Sweep
of_collecting w = collecting w.round.stamp w.round.home w.round.in_hand w.count w.place

-- one that has collected
abbrev pub of_collected : Collected → Sweep
of_collected w = collected w.stamp w.home

-- one that spreads
abbrev pub of_spreading : Spreading → Sweep
of_spreading w = spreading w.round.stamp w.round.home w.round.in_hand w.count w.place

-- one that is finished
abbrev pub of_finished : Finished → Sweep
of_finished w = finished w.stamp w.home

-- what collect leaves of a sweep
abbrev pub of_when_collected : ControlFlow Collected Collecting → Sweep
of_when_collected (Continue w) = of_collecting w
of_when_collected (Break w) = of_collected w

-- what confirm leaves of a sweep
abbrev pub of_when_confirmed : ControlFlow Finished Spreading → Sweep
of_when_confirmed (Continue w) = of_spreading w
of_when_confirmed (Break w) = of_finished w

-- the sweep that has the numbers of a pressed one
abbrev pub of_pressed : Pressed → Sweep
of_pressed (Asking round count place) = collecting round.stamp round.home round.in_hand count place
of_pressed (Telling round count place) = spreading round.stamp round.home round.in_hand count place

-- a letter that is sent, or the ground against it
abbrev pub sent_by : {K : Type 0} → Result (Letter K) Ground → State K → Result (Unit {0}) ℕ × State K
sent_by (Ok l) s = (Ok tt, letter_sent s l)
sent_by (Err g) s = (Err (ground_number g), s)

-- the answer of begin
abbrev pub begun_by : Result Collecting Ground → Result Sweep ℕ
begun_by (Ok w) = Ok (of_collecting w)
begun_by (Err g) = Err (ground_number g)

-- the answers of the calls that take a sweep: the ground if it was refused, the sweep after, and the state after
abbrev pub collected_by : {S : Type 0} → Result (ControlFlow Collected Collecting) (Refused Collecting) → S → Option ℕ × (Sweep × S)
collected_by (Ok t) s = (None, (of_when_collected t, s))
collected_by (Err e) s = (Some (ground_number e.ground), (of_collecting e.sweep, s))

-- the answer of spread
abbrev pub spread_by : {S : Type 0} → Result Spreading (Refused Collected) → S → Option ℕ × (Sweep × S)
spread_by (Ok w) s = (None, (of_spreading w, s))
spread_by (Err e) s = (Some (ground_number e.ground), (of_collected e.sweep, s))

-- the answer of confirm
abbrev pub confirmed_by : {S : Type 0} → Result (ControlFlow Finished Spreading) (Refused Spreading) → S → Option ℕ × (Sweep × S)
confirmed_by (Ok t) s = (None, (of_when_confirmed t, s))
confirmed_by (Err e) s = (Some (ground_number e.ground), (of_spreading e.sweep, s))
