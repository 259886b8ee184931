-- The pairs in the first slots of a slice, whatever a slot is. Assumes nothing.
use Rattle.std.proofs.Common.{◌≡◌, ℕ, ◌+◌, ◌<◌, ◌≤◌, List, [], ◌∷◌, ◌++◌, map, length, get_or, take, set, ap, ◌∙◌, arith}
use lib.ListN.{length-map}
use lib.Seq.{take-set-lt}
use Rattle.std.proofs.lemmas.List.{get_or-map, get_or-take, length-take-le, take_more_set, map_push, map-set}
use Rattle.names.specs.declared.path.Path.{Path}

module _ {X K : Type 0} (f : X → Path × K) where
  pub view_length : (n : ℕ) (xs : List X) → n ≤ length xs → length (map f (take n xs)) ≡ n
  view_length n xs le = length-map (take n xs) f ∙ length-take-le n xs le

  pub view_here : (n : ℕ) (xs : List X) (i : ℕ) (x : X) → n ≤ length xs → i < n → get_or (map f (take n xs)) i (f x) ≡ f (get_or xs i x)
  view_here n xs i x le lt = get_or-map f (take n xs) i x (f x) (omega (arith, length-take-le n xs le)) ∙ ap f (get_or-take n xs i x lt)

  pub view_set : (n : ℕ) (xs : List X) (i : ℕ) (x : X) → i < n → map f (take n (set xs i x)) ≡ set (map f (take n xs)) i (f x)
  view_set n xs i x lt = ap (map f) (take-set-lt n xs i x lt) ∙ map-set f (take n xs) i x

  pub view_push : (n : ℕ) (xs : List X) (x : X) → n < length xs → map f (take (n + 1) (set xs n x)) ≡ map f (take n xs) ++ f x ∷ []
  view_push n xs x lt = ap (map f) (take_more_set xs n x lt) ∙ map_push f (take n xs) x
