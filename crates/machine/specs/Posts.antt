-- The calls on a ring but those on sweeps: post, mail, hand, lose. Assumes nothing.
use Rattle.std.specs.Prelude.{ℕ, Bool, true, false, not, ◌&&◌, ◌||◌, List, [], ◌∷◌, ◌++◌, length, Some, None, Option, Result, ◌==◌, nat_lt}
use Rattle.names.specs.declared.path.Path.{Path}
use Rattle.names.specs.Paths.{sound_path, no_path}
use Rattle.names.specs.Stamps.{server_of}
use Rattle.store.specs.Meaning.{Meaning, count_of, path_at, entry_at, full_for, join_of}
use Rattle.letters.specs.declared.letter.Letter.{Letter}
use Rattle.letters.specs.declared.letter.Tag.{Tag}
use Rattle.letters.specs.declared.letter.Tag.TheVariants.{News, Raise, Counted, Fetch, Entry, Put, Stored, Swept, Noted}
use Rattle.letters.specs.Mail.{letter_at, is_full, lost}
use Rattle.machine.specs.Kinds.{Kind}
use Rattle.machine.specs.States.{State, Grounds, store_of, floor_of, with_store, with_bag, joined_at, floor_at, sweep_at, letter_sent, settled, no_copy}

-- Posting: a list of updates at one copy, all or none. A post has one update; kinds may have posting calls of their own.

-- one of them passes, or one before them did
abbrev pub some_more : {A : Type 0} → (A → Bool) → Bool → List A → Bool
some_more f b [] = b
some_more f b (x ∷ xs) = some_more f (b || f x) xs

-- one of them passes
abbrev pub some_of : {A : Type 0} → (A → Bool) → List A → Bool
some_of f [] = false
some_of f (x ∷ xs) = some_more f (f x) xs

-- the store after the updates were joined one after another
abbrev pub all_joined : {K : Type 0} → Kind K → Meaning K → List (Path × K) → Meaning K
all_joined k m [] = m
all_joined k m (x ∷ xs) = all_joined k (join_of k.join m x.0 x.1) xs

-- one of the updates finds the store full, or one before them did
abbrev pub fills_more : {K : Type 0} → Kind K → Bool → Meaning K → List (Path × K) → Bool
fills_more k b m [] = b
fills_more k b m (x ∷ xs) = fills_more k (b || full_for m x.0) (join_of k.join m x.0 x.1) xs

-- one of the updates, joined one after another, finds the store full
abbrev pub fills : {K : Type 0} → Kind K → Meaning K → List (Path × K) → Bool
fills k m [] = false
fills k m (x ∷ xs) = fills_more k (full_for m x.0) (join_of k.join m x.0 x.1) xs

-- path or entry is not sound
abbrev pub unsound : {K : Type 0} → Kind K → Path × K → Bool
unsound k x = not (sound_path x.0 && k.sound x.1)

-- the stamp is not of the copy
abbrev pub foreign : {K : Type 0} → Kind K → ℕ → Path × K → Bool
foreign k c x = not (server_of (k.stamp x.1) == c)

-- the stamp is below the copy's floor
abbrev pub late : {K : Type 0} → Kind K → State K → ℕ → Path × K → Bool
late k s c x = nat_lt (k.stamp x.1) (floor_of s c)

-- the grounds that every posting has
abbrev pub update_grounds : {K : Type 0} → Kind K → State K → ℕ → List (Path × K) → Grounds
update_grounds k s c xs =
    (no_copy s c, 6) ∷ (some_of (unsound k) xs, 11) ∷ (some_of (foreign k c) xs, 13) ∷ (some_of (late k s c) xs, 14) ∷ []

-- then those of the call's own, and last a full store
abbrev pub posting_grounds : {K : Type 0} → Kind K → State K → ℕ → List (Path × K) → Grounds → Grounds
posting_grounds k s c xs own = update_grounds k s c xs ++ (own ++ (fills k (store_of s c) xs, 16) ∷ [])

-- the state after a posting that is accepted
abbrev pub posted : {K : Type 0} → Kind K → State K → ℕ → List (Path × K) → State K
posted k s c xs = with_store s c (all_joined k (store_of s c) xs)

-- a posting: refused on the first of its grounds that fits, else joined
abbrev pub posting : {K : Type 0} → Kind K → State K → ℕ → List (Path × K) → Grounds → Result (Unit {0}) ℕ × State K
posting k s c xs own = settled (posting_grounds k s c xs own) s (tt, posted k s c xs)

-- post joins an entry at a copy
abbrev pub post : {K : Type 0} → Kind K → State K → ℕ → Path → K → Result (Unit {0}) ℕ × State K
post k s c p e = posting k s c ((p, e) ∷ []) []

-- Letters.

-- a letter that carries neither path nor entry
abbrev pub plain : {K : Type 0} → Kind K → Tag → ℕ → ℕ → ℕ → ℕ → ℕ → Letter K
plain k t from to stamp place count =
    record { tag = t; sender = from; addressee = to; stamp = stamp; place = place; count = count; path = no_path; entry = k.blank }

-- a letter with the path and the entry at a place of a store
abbrev pub laden : {K : Type 0} → Kind K → Tag → ℕ → ℕ → ℕ → ℕ → Meaning K → ℕ → Letter K
laden k t from to stamp place m at =
    record { tag = t; sender = from; addressee = to; stamp = stamp; place = place; count = 0; path = path_at m at; entry = entry_at k.blank m at }

-- mail sends what lies at a place of one copy to another
abbrev pub mail_grounds : {K : Type 0} → State K → ℕ → ℕ → ℕ → Grounds
mail_grounds s from to place =
    (no_copy s from || no_copy s to, 6)
    ∷ (from == to, 7)
    ∷ (not (nat_lt place (count_of (store_of s from))), 10)
    ∷ (is_full s.bag, 17)
    ∷ []

-- its step
abbrev pub mail : {K : Type 0} → Kind K → State K → ℕ → ℕ → ℕ → Result (Unit {0}) ℕ × State K
mail k s from to place = settled (mail_grounds s from to place) s (tt, letter_sent s (laden k News from to 0 0 (store_of s from) place))

-- hand, by the letter's tag
abbrev pub tag_grounds : {K : Type 0} → State K → Letter K → Tag → Grounds
tag_grounds s l News = (full_for (store_of s l.addressee) l.path, 16) ∷ []
tag_grounds s l Raise = (is_full s.bag, 17) ∷ []
tag_grounds s l Counted = (true, 9) ∷ []
tag_grounds s l Fetch = (not (nat_lt l.place (count_of (store_of s l.addressee))), 10) ∷ (is_full s.bag, 17) ∷ []
tag_grounds s l Entry = (true, 9) ∷ []
tag_grounds s l Put = (full_for (store_of s l.addressee) l.path, 16) ∷ (is_full s.bag, 17) ∷ []
tag_grounds s l Stored = (true, 9) ∷ []
tag_grounds s l Swept = (is_full s.bag, 17) ∷ []
tag_grounds s l Noted = (true, 9) ∷ []

-- what the addressee does with it, and the reply; a reply cannot be handed, so the last four change nothing
abbrev pub handed : {K : Type 0} → Kind K → State K → Letter K → Tag → State K
handed k s l News = joined_at k s l.addressee l.path l.entry
handed k s l Raise =
    letter_sent (floor_at s l.addressee l.stamp) (plain k Counted l.addressee l.sender l.stamp l.place (count_of (store_of s l.addressee)))
handed k s l Fetch = letter_sent s (laden k Entry l.addressee l.sender l.stamp l.place (store_of s l.addressee) l.place)
handed k s l Put =
    letter_sent (joined_at k s l.addressee l.path l.entry) (plain k Stored l.addressee l.sender l.stamp l.place 0)
handed k s l Swept =
    letter_sent (sweep_at s l.addressee l.stamp) (plain k Noted l.addressee l.sender l.stamp l.place 0)
handed k s l Counted = s
handed k s l Entry = s
handed k s l Stored = s
handed k s l Noted = s

-- the grounds of hand, for the letter of that number
abbrev pub hand_grounds : {K : Type 0} → State K → Option (Letter K) → Grounds
hand_grounds s None = (true, 8) ∷ []
hand_grounds s (Some l) = tag_grounds s l l.tag

-- the state after an accepted hand
abbrev pub after_hand : {K : Type 0} → Kind K → State K → Option (Letter K) → State K
after_hand k s None = s
after_hand k s (Some l) = handed k s l l.tag

-- hand gives a letter to its addressee and leaves it in the bag
abbrev pub hand : {K : Type 0} → Kind K → State K → ℕ → Result (Unit {0}) ℕ × State K
hand k s i = settled (hand_grounds s (letter_at s.bag.letters i)) s (tt, after_hand k s (letter_at s.bag.letters i))

-- lose takes a letter out of the bag
abbrev pub lose_grounds : {K : Type 0} → State K → ℕ → Grounds
lose_grounds s i = (not (nat_lt i (length s.bag.letters)), 8) ∷ []

-- its step
abbrev pub lose : {K : Type 0} → State K → ℕ → Result (Unit {0}) ℕ × State K
lose s i = settled (lose_grounds s i) s (tt, with_bag s (lost s.bag i))
