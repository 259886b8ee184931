-- Built calls, answers and sweeps as the machine has them. Assumes nothing.
use Rattle.std.specs.Prelude.{◌≡◌, ℕ, Bool, true, false, List, [], ◌∷◌, map, Some, None, Ok, Err, vec_items, Option, Result, MatchOption}
use Rattle.grounds.specs.declared.Ground.{Ground}
use Rattle.grounds.specs.Grounds.{ground_number}
use Rattle.store.specs.declared.bank.Bank.{Ghosts as Banks}
use Rattle.letters.specs.declared.bag.Bag.{Ghosts as Bags}
use Rattle.letters.specs.declared.letter.Letter.{Letter}
use Rattle.machine.specs.Kinds.{Kind}
use Rattle.machine.specs.States.{State}
use Rattle.machine.specs.Sweeps.{Sweep, collecting, collected, spreading, finished, ended}
use Rattle.machine.specs.Worlds as machine
use Rattle.ring.specs.Built.{state_of, of_collecting, of_collected, of_spreading, of_finished}
use Rattle.service.specs.declared.call.Call.{Call}
use Rattle.service.specs.declared.call.Call.TheVariants.{Post, Mail, Hand, Lose, Begin, Press, Collect, Spread, Confirm, Close, Abandon}
use Rattle.service.specs.declared.call.Got.{Got}
use Rattle.service.specs.declared.call.Got.TheVariants.{Nothing, More, Done, Stamp}
use Rattle.service.specs.declared.call.Trouble.{Trouble}
use Rattle.service.specs.declared.call.Trouble.TheVariants.{Refused, NoMemory}
use Rattle.service.specs.declared.held.Held.{Held}
use Rattle.service.specs.declared.held.Held.TheVariants as held
use Rattle.service.specs.declared.held.Kept.{Kept}
use Rattle.service.specs.declared.service.Service.{Service}
use Rattle.service.specs.declared.sweep_calls.SweepCall.{SweepCall}
use Rattle.service.specs.declared.sweep_calls.SweepCall.TheVariants as on

-- each built call
abbrev pub of_call : {K : Type 0} → Call K → machine.Call K
of_call (Post copy path entry) = machine.posts copy ((path, entry) ∷ []) (λ _. [])
of_call (Mail from to place) = machine.mail from to place
of_call (Hand letter) = machine.hand letter
of_call (Lose letter) = machine.lose letter
of_call (Begin copy time) = machine.begin copy time
of_call (Press sweep) = machine.press sweep
of_call (Collect sweep letter) = machine.collect sweep letter
of_call (Spread sweep) = machine.spread sweep
of_call (Confirm sweep letter) = machine.confirm sweep letter
of_call (Close sweep) = machine.close sweep
of_call (Abandon sweep) = machine.abandon sweep

-- each built call on the sweep of a number
abbrev pub of_sweep_call : {K : Type 0} → SweepCall → ℕ → machine.Call K
of_sweep_call on.Press j = machine.press j
of_sweep_call (on.Collect letter) j = machine.collect j letter
of_sweep_call on.Spread j = machine.spread j
of_sweep_call (on.Confirm letter) j = machine.confirm j letter
of_sweep_call on.Close j = machine.close j
of_sweep_call on.Abandon j = machine.abandon j

-- what the built call got
abbrev pub of_got : Got → machine.Got
of_got Nothing = machine.nothing
of_got More = machine.more
of_got Done = machine.done
of_got (Stamp s) = machine.stamped s

-- the answer of a call that gets nothing besides
abbrev pub got_nothing : Result (Unit {0}) ℕ → Result machine.Got ℕ
got_nothing (Ok u) = Ok machine.nothing
got_nothing (Err g) = Err g

-- a ring's answer, with what was got
abbrev pub by_got : Result Got Ground → Result machine.Got ℕ
by_got (Ok g) = Ok (of_got g)
by_got (Err g) = Err (ground_number g)

-- the answer by number; none where there was no memory
abbrev pub answer_of : Result Got Trouble → Option (Result machine.Got ℕ)
answer_of (Ok g) = Some (Ok (of_got g))
answer_of (Err (Refused g)) = Some (Err (ground_number g))
answer_of (Err NoMemory) = None

-- each built sweep
abbrev pub of_held : Held → Sweep
of_held (held.Collecting w) = of_collecting w
of_held (held.Collected w) = of_collected w
of_held (held.Spreading w) = of_spreading w
of_held (held.Finished w) = of_finished w
of_held held.Ended = ended

-- the sweep has not ended
abbrev pub is_going : Sweep → Bool
is_going (collecting stamp home in_hand count place) = true
is_going (collected stamp home) = true
is_going (spreading stamp home in_hand count place) = true
is_going (finished stamp home) = true
is_going ended = false

-- the sweep that is kept
abbrev pub of_kept : Kept → Sweep
of_kept x = of_held x.0

-- a ring in service: its state, and its sweeps
abbrev pub serving : {K B G : Type 0} → Banks B K → Bags G (Letter K) → Service K B G → State K × List Sweep
serving b g s = (state_of b g s.ring, map of_kept (vec_items s.sweeps))

-- the machine's world with that ring and those sweeps, of whose updates nothing is said
abbrev pub world_of : {K : Type 0} → State K × List Sweep → machine.World K
world_of x = record { ring = x.0; sweeps = x.1; updates = [] }

-- what a step answers, and the ring and the sweeps after it
abbrev pub seen : {K A : Type 0} → A × machine.World K → A × (State K × List Sweep)
seen r = (r.0, (r.1.ring, r.1.sweeps))

-- the call begins a sweep
abbrev pub is_begin : {K : Type 0} → machine.Call K → Bool
is_begin (machine.begin copy time) = true
is_begin _ = false

-- a call does its step on the machine, or, if it begins a sweep for which there was no memory, nothing
abbrev pub Performs : {K : Type 0} → Kind K → machine.Call K → State K × List Sweep → Result Got Trouble → State K × List Sweep → Type 0
Performs k x before r after = MatchOption (answer_of r) ((is_begin x ≡ true) × (after ≡ before)) (λ a. (a, after) ≡ seen (machine.step k x (world_of before)))
