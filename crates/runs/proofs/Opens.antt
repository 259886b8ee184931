-- What a check that found no ground says of stores and bag, and the laws of recipe entries. Assumes nothing.
use Rattle.std.proofs.Common.{◌≡◌, ℕ, Bool, true, false, cond, leb, List, [], ◌∷◌, length, replicate, Some, None, Ok, Option, refl, ap, ◌∙◌}
use Rattle.std.specs.List.{AllByRecursion}
use Rattle.std.proofs.lemmas.List.{nil_from_length}
use Rattle.std.proofs.lemmas.Bool.{or_parts, and_parts, not-false, eqb-true, leb-true}
use Rattle.entries.specs.declared.recipe.Recipe.{Recipe}
use Rattle.entries.specs.Recipes.{key, later}
use Rattle.entries.specs.Keys.{recipes_commute, recipes_associate}
use Rattle.store.specs.Meaning.{Meaning, count_of}
use Rattle.store.specs.declared.bank.Bank.{Ghosts as Banks}
use Rattle.letters.specs.declared.letter.Letter.{Letter}
use Rattle.letters.specs.declared.bag.Bag.{Ghosts as Bags}
use Rattle.letters.specs.Mail.{Mail, emptied}
use Rattle.heads.specs.Heads.{new_head}
use Rattle.machine.specs.Kinds.{Laws}
use Rattle.ring.specs.Recipes.{recipes}
use Rattle.machine.specs.States.{first_ground}
use Rattle.machine.specs.Worlds.{opened}
use Rattle.agreement.specs.Agreement.{Fresh}
use Rattle.agreement.proofs.Passing.{none_fits}
use Rattle.ring.specs.declared.opening.Opening.{Opening}
use Rattle.ring.specs.Openings.{some_store, not_empty, open_grounds, open_answer, made_of}

-- an accepted check found no ground
pub open_ok : (o : Option ℕ) (n m : ℕ) → Ok m ≡ open_answer o n → (o ≡ None) × (m ≡ n)
open_ok None n m e = (refl, cc)
open_ok (Some g) n m e = absurd cc

all_empty : (ms : List (Meaning Recipe)) → some_store not_empty ms ≡ false → AllByRecursion (λ m. m.pairs ≡ []) ms
unfolding count_of
all_empty [] e = tt
all_empty (m ∷ ms) e =
    let o = or_parts (not_empty m) (some_store not_empty ms) e in
    (nil_from_length m.pairs (eqb-true _ _ (not-false _ o.0)), all_empty ms o.1)

-- stores that pass the check are two to eight, and empty
pub fresh : (stores : List (Meaning Recipe)) (bag : Mail (Letter Recipe)) → first_ground (open_grounds stores bag) ≡ None → Fresh stores
fresh stores bag e =
    let p = none_fits (open_grounds stores bag) e in
    let range = and_parts (leb 2 (length stores)) (leb (length stores) 8) (not-false _ p.0) in
    record { two = leb-true _ _ range.0; eight = leb-true _ _ range.1; empty = all_empty stores p.1.1.0 }

-- the ring that was made is a ring just opened over those stores, with room for as many letters
pub just_opened : {B G : Type 0} (b : Banks B Recipe) (g : Bags G (Letter Recipe)) (o : Opening Recipe B G) (stores : List (Meaning Recipe)) (bag : Mail (Letter Recipe)) → o.copies ≡ length stores → b.meanings o.stores ≡ stores → g.mail o.bag ≡ bag → made_of b g o ≡ (opened stores bag.places).ring
just_opened b g o stores bag count same_stores same_bag =
    ap (λ n. record { copies = n; heads = replicate 8 new_head; stores = b.meanings o.stores; bag = emptied (g.mail o.bag) }) count
    ∙ ap (λ (ms : List (Meaning Recipe)). record { copies = length stores; heads = replicate 8 new_head; stores = ms; bag = emptied (g.mail o.bag) }) same_stores
    ∙ ap (λ (m : Mail (Letter Recipe)). record { copies = length stores; heads = replicate 8 new_head; stores = stores; bag = emptied m }) same_bag

-- recipe entries keep the laws of a kind
pub recipe_laws : Laws recipes
recipe_laws = record { idempotent = λ a. same (later (key a) (key a)) a; commutative = recipes_commute; associative = recipes_associate }
  where
    same : (b : Bool) (a : Recipe) → cond b a a ≡ a
    same true a = refl
    same false a = refl
