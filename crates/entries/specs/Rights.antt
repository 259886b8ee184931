-- A rights entry: a number for each of eight roles, and the greater of them in a join. Assumes nothing.
use Rattle.std.specs.Prelude.{◌≡◌, ℕ, ◌+◌, ◌*◌, ◌/◌, ◌%◌, ◌^◌, ◌≤◌, max, Bool, true, cond, ◌&&◌, List, [], ◌∷◌, replicate, Some, None, Option, ◌==◌, nat_lt, slice_index, slice_set}
use Rattle.entries.specs.declared.rights.Rights.{Rights}

-- an entry by the numbers of its roles
abbrev pub of_roles : List ℕ → Rights
of_roles xs = record { roles = xs }

-- the blank entry: nothing was said of any role
abbrev pub blank_rights : Rights
blank_rights = of_roles (replicate 8 0)

-- the greater of two numbers for each role; where a list is shorter, the other's numbers
abbrev pub greater : List ℕ → List ℕ → List ℕ
greater [] ys = ys
greater (x ∷ xs) [] = x ∷ xs
greater (x ∷ xs) (y ∷ ys) = max x y ∷ greater xs ys

-- the greater number of each role
abbrev pub join_rights : Rights → Rights → Rights
join_rights a b = of_roles (greater a.roles b.roles)

-- the greatest of the numbers, or 0
abbrev pub greatest : List ℕ → ℕ
greatest [] = 0
greatest (x ∷ xs) = max x (greatest xs)

-- the stamp of a role's number: half of it, rounded down
abbrev pub stamp_in : ℕ → ℕ
stamp_in n = n / 2

-- that of the greatest number
abbrev pub rights_stamp : Rights → ℕ
rights_stamp a = stamp_in (greatest a.roles)

-- each number is below the limit
abbrev pub all_below : ℕ → List ℕ → Bool
all_below n [] = true
all_below n (x ∷ xs) = nat_lt x n && all_below n xs

-- each number is below 2^41
abbrev pub sound_rights : Rights → Bool
sound_rights a = all_below (2 ^ 41) a.roles

-- the number for a grant, or a withdrawal, at a stamp
abbrev pub word : Bool → ℕ → ℕ
word granted stamp = cond granted (2 * stamp + 1) (2 * stamp)

-- the entry that says this of one role and nothing of the others, if there is such a sound entry
abbrev pub saying : ℕ → Bool → ℕ → Option Rights
saying role granted stamp = cond (nat_lt role 8 && nat_lt stamp (2 ^ 40)) (Some (of_roles (slice_set (replicate 8 0) role (word granted stamp)))) None

-- the number of a granted role is odd
abbrev pub is_granted : Rights → ℕ → Bool
is_granted a role = slice_index a.roles role % 2 == 1

-- what was said of a role before is not above a new word on it: then the join says the new word
abbrev pub LatestWordDecides : Type 0
LatestWordDecides =
    (a b : Rights) (role stamp : ℕ) (granted : Bool)
    → saying role granted stamp ≡ Some b
    → slice_index a.roles role ≤ word granted stamp
    → is_granted (join_rights a b) role ≡ granted
