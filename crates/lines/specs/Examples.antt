-- The lines of the example in the rules, and some that are of no form. Assumes nothing.
use Rattle.std.specs.Prelude.{◌≡◌, [], ◌∷◌, Some, None, codes}
use Rattle.entries.specs.declared.recipe.Content.TheVariants.{Number, Link}
use Rattle.names.specs.Labels.{label}
use Rattle.lines.specs.Asked.{post, grow, lookup, asked_by}

-- `rye` and `north` as the numbers that they are kept as are 0x7279650000000000 and 0x6e6f727468000000
pub record ExampleLines : Type 0 where
  pub posts : asked_by (codes "op=p copy=0 time=5 dir=1 path=rye says=n640") ≡ Some (post 0 (record { directory = 1; first = label 0x7279650000000000; second = label 0; third = label 0 }) (record { stamp = 1280; content = Number 640 }))
  pub grows : asked_by (codes "op=g copy=0 time=6 new=9 label=north old=1") ≡ Some (grow 0 1536 9 (label 0x6e6f727468000000) 1)
  pub looks : asked_by (codes "op=l copy=0 start=9 name=north/rye") ≡ Some (lookup 0 9 (label 0x6e6f727468000000 ∷ label 0x7279650000000000 ∷ []))
  pub unsound_path : asked_by (codes "op=p copy=3 time=5 dir=1 path=a/b/c/d says=l7:") ≡ Some (post 3 (record { directory = 1; first = label 0; second = label 0; third = label 0 }) (record { stamp = 1283; content = Link 7 (label 0) }))
  pub unsound_name : asked_by (codes "op=l copy=0 start=9 name=north//rye") ≡ Some (lookup 0 9 [])
  pub leading_zero : asked_by (codes "op=h letter=07") ≡ None
  pub two_spaces : asked_by (codes "op=h  letter=7") ≡ None
  pub space_behind : asked_by (codes "op=s ") ≡ None
  pub empty_line : asked_by [] ≡ None
