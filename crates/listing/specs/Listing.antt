-- What a listing of a directory writes. Assumes nothing.
use Rattle.std.specs.Prelude.{◌≡◌, ℕ, cond, ◌↔◌, List, [], ◌∷◌, ◌++◌, length, drop, None, Ok, Err, Option, Result, ◌==◌, nat_lt}
use Rattle.std.specs.declared.cmp.Ordering.TheVariants.{Less}
use Rattle.std.specs.Option.{option_map}
use Rattle.std.specs.Ordering.{is_lt}
use Rattle.std.specs.List.{ContainsAt as Has, AllByRecursion, filter_map}
use Rattle.names.specs.declared.path.Path.{Path}
use Rattle.names.specs.Paths.{order_of}
use Rattle.entries.specs.declared.recipe.Content.{Content}
use Rattle.entries.specs.declared.recipe.Recipe.{Recipe}
use Rattle.store.specs.Meaning.{Meaning, Sound}
use Rattle.store.specs.Laws.{entry_of}
use Rattle.reading.specs.Shown.{Look, content_shown}
use Rattle.reading.specs.Rules.{Holds}
use Rattle.listing.specs.declared.listed.Listed.{Listed}

-- a path with a content
abbrev pub listed : Path → Content → Listed
listed p k = record { path = p; content = k }

-- the path with its content, where it lies in the directory and is shown
abbrev pub pick : Look → ℕ → Path → Option Listed
pick f d p = cond (p.directory == d) (option_map (listed p) (content_shown f p)) None

-- what is picked at the paths of the pairs, in their order
abbrev pub picks : Look → ℕ → List (Path × Recipe) → List Listed
picks f d ps = filter_map (λ x. pick f d x.0) ps

-- all shown paths of the directory, in the order in which they came
abbrev pub all_picks : Meaning Recipe → ℕ → List Listed
all_picks m d = picks (entry_of m) d m.pairs

-- put before the first whose path is not lower
abbrev pub insert : Listed → List Listed → List Listed
insert x [] = x ∷ []
insert x (y ∷ ys) = cond (is_lt (order_of y.path x.path)) (y ∷ insert x ys) (x ∷ y ∷ ys)

-- the list in ascending order of paths
abbrev pub in_order : List Listed → List Listed
in_order [] = []
in_order (x ∷ xs) = insert x (in_order xs)

-- the shown paths of the directory with their contents, in path order
abbrev pub listing : Meaning Recipe → ℕ → List Listed
listing m d = in_order (all_picks m d)

-- the answer: how many there are, or ground 20 where the memory is shorter
abbrev pub list_answer : Meaning Recipe → ℕ → List Listed → Result ℕ ℕ
list_answer m d memory = cond (nat_lt (length memory) (length (listing m d))) (Err 20) (Ok (length (listing m d)))

-- a list written to the front of a memory, whose further elements stay
abbrev pub written : List Listed → List Listed → List Listed
written xs memory = xs ++ drop (length xs) memory

-- the memory after: the listing is written to it, unless it is shorter
abbrev pub list_after : Meaning Recipe → ℕ → List Listed → List Listed
list_after m d memory = cond (nat_lt (length memory) (length (listing m d))) memory (written (listing m d) memory)

-- each path is lower than all that follow
abbrev pub Ascending : List Listed → Type 0
Ascending [] = Unit {0}
Ascending (x ∷ xs) = AllByRecursion (λ y. order_of x.path y.path ≡ Less) xs × Ascending xs

-- the list has exactly the paths of the directory that the rules show, each with its content, in ascending order
pub record Lists (f : Look) (d : ℕ) (xs : List Listed) : Type 0 where
  pub ascending : Ascending xs
  pub exactly : (x : Listed) → Has xs x ↔ ((x.path.directory ≡ d) × Holds f x.path x.content)

-- two stores that hold the same entry under each path, in whatever order, list alike into equal memories
abbrev pub ListingsReadAlike : Type 0
ListingsReadAlike =
    (m n : Meaning Recipe) → Sound m → Sound n → ((p : Path) → entry_of m p ≡ entry_of n p)
    → (d : ℕ) (memory : List Listed) → (list_answer m d memory ≡ list_answer n d memory) × (list_after m d memory ≡ list_after n d memory)
