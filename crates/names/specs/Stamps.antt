-- Stamps: a time and the server that made it, in one number. Assumes nothing.
use Rattle.std.specs.Prelude.{ℕ, ◌+◌, ◌*◌, ◌%◌, ◌<◌}

-- the stamp that a server makes at a time
abbrev pub stamp_at : ℕ → ℕ → ℕ
stamp_at time server = time * 256 + server

-- the server that made a stamp
abbrev pub server_of : ℕ → ℕ
server_of stamp = stamp % 256

-- r stands above every stamp of an earlier time, and below every stamp of a later one
abbrev pub ByTime : ℕ → ℕ → Type 0
ByTime time r = (t server : ℕ) → server < 256 → (t < time → stamp_at t server < r) × (time < t → r < stamp_at t server)
