-- Lists in ascending order that have the same elements are equal. Assumes nothing.
use Rattle.std.proofs.Common.{◌≡◌, ℕ, zero, suc, ◌<◌, ◌⊎◌, ◌↔◌, List, [], ◌∷◌, length, get_or, Less, sym, refl, ap, ◌∙◌, subst, ap₂, inl, inr, le_of_suc-le-suc, not-suc-le-zero, arith}
use Rattle.std.specs.Ordering.{ordering_reverse}
use Rattle.std.specs.List.{ContainsAt as Has}
use Rattle.std.proofs.ByRecursion.{all-has}
use Rattle.names.specs.Paths.{order_of}
use Rattle.listing.specs.declared.listed.Listed.{Listed}
use Rattle.listing.specs.Listing.{Ascending}
use Rattle.listing.proofs.Orders.{by_path}

-- an element of a list is its first or one of the others
pub has_first : (x : Listed) (xs : List Listed) → Has (x ∷ xs) x
has_first x xs = (0, omega arith, λ _. refl)

pub has_other : (x y : Listed) (xs : List Listed) → Has xs y → Has (x ∷ xs) y
has_other x y xs h = (suc h.0, (let lt = h.1 in omega arith), h.2)

has_cases : (x y : Listed) (xs : List Listed) → Has (x ∷ xs) y → (x ≡ y) ⊎ Has xs y
has_cases x y xs h = go h.0 h.1 h.2
  where
    go : (k : ℕ) → k < length (x ∷ xs) → ((d : Listed) → get_or (x ∷ xs) k d ≡ y) → (x ≡ y) ⊎ Has xs y
    go zero lt at = inl (at x)
    go (suc k) lt at = inr (k, le_of_suc-le-suc lt, at)

-- of two paths at most one is below the other
not_both : (x y : Listed) → order_of x.path y.path ≡ Less → order_of y.path x.path ≡ Less → ⊥
not_both x y h k = let e = by_path.antisymm x y in let f = ap ordering_reverse k in cc

-- what follows the first of an ascending list is not the first
not_first : (x : Listed) (xs ys : List Listed) → Ascending (x ∷ xs) → (z : Listed) → Has xs z → Has (x ∷ ys) z → Has ys z
not_first x xs ys a z h k = go (has_cases x z ys k) (all-has (λ y. order_of x.path y.path ≡ Less) xs z a.0 h)
  where
    go : (x ≡ z) ⊎ Has ys z → order_of x.path z.path ≡ Less → Has ys z
    go (inl e) l = absurd (not_both x z l (ap₂ (λ (u v : Listed). order_of u.path v.path) (sym e) e ∙ l))
    go (inr g) l = g

-- lists that have each other's first have the same first
same_first : (x y : Listed) (xs ys : List Listed) → Ascending (x ∷ xs) → Ascending (y ∷ ys) → Has (y ∷ ys) x → Has (x ∷ xs) y → x ≡ y
same_first x y xs ys a b h k = go (has_cases y x ys h) (has_cases x y xs k)
  where
    go : (y ≡ x) ⊎ Has ys x → (x ≡ y) ⊎ Has xs y → x ≡ y
    go (inl e) k = sym e
    go (inr h) (inl e) = e
    go (inr h) (inr k) =
        absurd (not_both x y (all-has (λ z. order_of x.path z.path ≡ Less) xs y a.0 k) (all-has (λ z. order_of y.path z.path ≡ Less) ys x b.0 h))

-- ascending lists with the same elements
pub one_list : (xs ys : List Listed) → Ascending xs → Ascending ys → ((x : Listed) → Has xs x ↔ Has ys x) → xs ≡ ys
one_list [] [] a b same = refl
one_list [] (y ∷ ys) a b same = absurd (not-suc-le-zero ((same y).1 (has_first y ys)).1)
one_list (x ∷ xs) [] a b same = absurd (not-suc-le-zero ((same x).0 (has_first x xs)).1)
one_list (x ∷ xs) (y ∷ ys) a b same =
    let e = same_first x y xs ys a b ((same x).0 (has_first x xs)) ((same y).1 (has_first y ys)) in
    ap₂ ◌∷◌ e
    (one_list xs ys a.1 b.1
    (λ z. (λ h. not_first x xs ys a z h (subst (λ w. Has (w ∷ ys) z) (sym e) ((same z).0 (has_other x z xs h))), λ h. not_first y ys xs b z h (subst (λ w. Has (w ∷ xs) z) e ((same z).1 (has_other y z ys h))))))
