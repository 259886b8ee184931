-- The round of a sweep: the copies after its home, in order of their numbers, and 0 after the last. Assumes nothing.
use Rattle.std.proofs.Common.{◌≡◌, ℕ, suc, ◌+◌, ◌-◌, ◌<◌, ◌≤◌, cond, leb, arith}
use Rattle.std.proofs.lemmas.Bool.Decides.{nat_tests}
use Rattle.machine.specs.States.{next_copy}

-- how many steps of the round lead from home to a copy
abbrev pub steps_to : ℕ → ℕ → ℕ → ℕ
steps_to n home d = cond (leb home d) (d - home) (d + n - home)

-- the next copy is one of the ring
pub next_below : (n c : ℕ) → c < n → next_copy n c < n
next_below n c h = grind (arith, nat_tests)

-- the first step
pub steps_first : (n home : ℕ) → 2 ≤ n → home < n → steps_to n home (next_copy n home) ≡ 1
steps_first n home a b = grind (arith, nat_tests)

-- one step more, unless it comes home
pub steps_next : (n home c : ℕ) → home < n → c < n → (next_copy n c ≡ home → ⊥) → steps_to n home (next_copy n c) ≡ suc (steps_to n home c)
steps_next n home c a b d = grind (arith, nat_tests)

-- the last step comes home
pub steps_last : (n home c : ℕ) → home < n → c < n → next_copy n c ≡ home → suc (steps_to n home c) ≡ n
steps_last n home c a b d = grind (arith, nat_tests)

-- every copy is fewer steps away than there are copies
pub steps_below : (n home d : ℕ) → home < n → d < n → steps_to n home d < n
steps_below n home d a b = grind (arith, nat_tests)

-- home alone is no step away
pub steps_none : (n home d : ℕ) → home < n → d < n → steps_to n home d < 1 → d ≡ home
steps_none n home d a b c = grind (arith, nat_tests)

-- two copies as many steps away are the same
pub steps_same : (n home c d : ℕ) → home < n → c < n → d < n → steps_to n home c ≡ steps_to n home d → c ≡ d
steps_same n home c d a b e f = grind (arith, nat_tests)
