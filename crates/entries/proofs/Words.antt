-- What the join says of a role after a new word on it. Assumes nothing.
use Rattle.std.proofs.Common.{◌≡◌, ℕ, ◌%◌, ◌^◌, ◌<◌, Bool, true, false, cond, ◌&&◌, eqb, ltb, get_or, set, replicate, is_some, Some, None, sym, refl, ap, ◌∙◌, arith}
use Rattle.std.proofs.lemmas.List.{get_or-set_same}
use Rattle.std.proofs.lemmas.Bool.{ltb-true, and_parts, eq-eqb, ne_eqb, both_ways}
use Rattle.entries.specs.declared.rights.Rights.{Rights}
use Rattle.entries.specs.Rights.{of_roles, greater, word, LatestWordDecides}
use Rattle.entries.proofs.Roles.{get_or_greater}

-- the number for a word is odd for a grant alone
odd_word : (granted : Bool) (stamp : ℕ) → eqb (word granted stamp % 2) 1 ≡ granted
odd_word true stamp = eq-eqb _ _ (omega arith)
odd_word false stamp = ne_eqb _ _ (λ e. omega arith)

-- the entry that says one word has its number at the role
module _ (role : ℕ) (granted : Bool) (stamp : ℕ) (b : Rights) where
  word_said : (t : Bool) → (ltb role 8 && ltb stamp (2 ^ 40)) ≡ t → cond t (Some (of_roles (set (replicate 8 0) role (word granted stamp)))) None ≡ Some b → get_or b.roles role 0 ≡ word granted stamp
  word_said true h e =
      let low : role < 8 = ltb-true role 8 (and_parts _ _ h).0 in
      let is : of_roles (set (replicate 8 0) role (word granted stamp)) ≡ b = cc in
      sym (ap (λ (x : Rights). get_or x.roles role 0) is) ∙ get_or-set_same (replicate 8 0) role (word granted stamp) 0 low
  word_said false h e = absurd (both_ways false refl (ap is_some e))

pub latest_word_decides : LatestWordDecides
latest_word_decides a b role stamp granted e older =
    let new : get_or b.roles role 0 ≡ word granted stamp = word_said role granted stamp b (ltb role 8 && ltb stamp (2 ^ 40)) refl e in
    let top : get_or (greater a.roles b.roles) role 0 ≡ word granted stamp = get_or_greater a.roles b.roles role ∙ omega arith in
    ap (λ n. eqb (n % 2) 1) top ∙ odd_word granted stamp
