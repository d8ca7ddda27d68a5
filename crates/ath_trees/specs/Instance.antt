-- Sort instances of sentences, found by one walk over both nameless forms. A map from sort variables to sorts grows on the
-- way; rigid variables stay as they are.
use Rattle.std.specs.Option.{is_some}
use Rattle.std.specs.Prelude.{◌≡◌, Bool, true, false, ◌==◌, List, [], ◌∷◌, ◌++◌, map, Option, Some, None, option_and_then, if◌then◌else◌}
use Rattle.ath_sorts.specs.declared.sorts.Sym.{Sym}
use Rattle.ath_sorts.specs.declared.sorts.SVar.{SVar}
use Rattle.ath_sorts.specs.declared.sorts.Sort.{Sort, Var, out-Sort}
use Rattle.ath_sorts.specs.declared.sorts.Sort.TheOpen as one
use Rattle.ath_sorts.specs.declared.sorts.Sort.TheFolds.{fold-Sort}
use Rattle.ath_sorts.specs.Matching.{Agrees}
use Rattle.ath_sorts.specs.Sorts.{image}
use Rattle.ath_sorts.specs.Substitutions.{entry_of}
use Rattle.ath_sorts.specs.Equality.{same_sort}
use Rattle.ath_trees.specs.declared.node.Binary.{Binary}
use Rattle.ath_trees.specs.declared.node.Binary.TheVariants.{And, Or, If, Iff}
use Rattle.ath_trees.specs.declared.node.Quant.{Quant}
use Rattle.ath_trees.specs.declared.node.Quant.TheVariants.{Forall, Exists}
use Rattle.ath_trees.specs.Tree.{Sent}
use Rattle.ath_trees.specs.Variables.{is_namesake}
use Rattle.ath_trees.specs.Nameless.{NTerm, NTerms, nfree, nbound, napp, nnone, nmore, NSent, natom, nequal, nnegated, njoined, nquant, nameless, AlphaEqual}
use Rattle.ath_trees.specs.SortUnder.{sent_at_sorts}

-- `p` at the sorts of f is `q` up to the names of bound variables
pub record IsSortInstance (rigid : SVar → Bool) (f : SVar → Sort) (p q : Sent) : Type 0 where
  pub off : (v : SVar) → rigid v ≡ true → f v ≡ Var v
  pub equal : AlphaEqual (sent_at_sorts f p) q

-- the map with what it was before, or none
abbrev pub Found : Type 0
Found = Option (List (SVar × Sort))

-- the variable becomes t: where it has an image, that is t; else t is its image
abbrev pub noted : Option Sort → SVar → Sort → List (SVar × Sort) → Found
noted (Some u) v t s = if same_sort u t then Some s else None
noted None v t s = Some (s ++ (v, t) ∷ [])

abbrev pub match_all : List (Sort → List (SVar × Sort) → Found) → List Sort → List (SVar × Sort) → Found
match_all [] [] s = Some s
match_all (m ∷ ms) (t ∷ ts) s = option_and_then (match_all ms ts) (m t s)
match_all ms ts s = None

abbrev pub match_con : Sym → List (Sort → List (SVar × Sort) → Found) → one.Sort-F Sort → List (SVar × Sort) → Found
match_con c ms (one.Var w) s = None
match_con c ms (one.Con d ts) s = if c.0 == d.0 then match_all ms ts s else None

abbrev pub match_step : (SVar → Bool) → one.Sort-F (Sort → List (SVar × Sort) → Found) → Sort → List (SVar × Sort) → Found
match_step rigid (one.Var v) t s = noted (if rigid v then Some (Var v) else entry_of s v) v t s
match_step rigid (one.Con c ms) t s = match_con c ms (out-Sort t) s

abbrev pub match_sort : (SVar → Bool) → Sort → Sort → List (SVar × Sort) → Found
match_sort rigid = fold-Sort (Sort → List (SVar × Sort) → Found) (match_step rigid)

abbrev mutual
  pub match_term : (SVar → Bool) → NTerm → NTerm → List (SVar × Sort) → Found
  match_term rigid (nfree v) (nfree w) s = if is_namesake v w then match_sort rigid v.sort w.sort s else None
  match_term rigid (nbound i) (nbound j) s = if i == j then Some s else None
  match_term rigid (napp f ss ts) (napp g us vs) s = if f.0 == g.0 then option_and_then (match_terms rigid ts vs) (match_all (map (match_sort rigid) ss) us s) else None
  match_term rigid t u s = None

  pub match_terms : (SVar → Bool) → NTerms → NTerms → List (SVar × Sort) → Found
  match_terms rigid nnone nnone s = Some s
  match_terms rigid (nmore t ts) (nmore u us) s = option_and_then (match_terms rigid ts us) (match_term rigid t u s)
  match_terms rigid ts us s = None

abbrev pub same_binary : Binary → Binary → Bool
same_binary And And = true
same_binary Or Or = true
same_binary If If = true
same_binary Iff Iff = true
same_binary c d = false

abbrev pub same_quant : Quant → Quant → Bool
same_quant Forall Forall = true
same_quant Exists Exists = true
same_quant k l = false

abbrev pub match_sent : (SVar → Bool) → NSent → NSent → List (SVar × Sort) → Found
match_sent rigid (natom t) (natom u) s = match_term rigid t u s
match_sent rigid (nequal t u) (nequal v w) s = option_and_then (match_term rigid u w) (match_term rigid t v s)
match_sent rigid (nnegated p) (nnegated q) s = match_sent rigid p q s
match_sent rigid (njoined c p q) (njoined d r t) s = if same_binary c d then option_and_then (match_sent rigid q t) (match_sent rigid p r s) else None
match_sent rigid (nquant k a p) (nquant l b q) s = if same_quant k l then option_and_then (match_sent rigid p q) (match_sort rigid a b s) else None
match_sent rigid p q s = None

-- the sort substitution that makes `p` alpha-equal to `q`
abbrev pub sort_instance : (SVar → Bool) → Sent → Sent → Found
sort_instance rigid p q = match_sent rigid (nameless p) (nameless q) []

-- whether two sentences are alpha-equal: no sort variable may change
abbrev pub is_alpha_equal : Sent → Sent → Bool
is_alpha_equal p q = is_some (sort_instance (λ v. true) p q)

-- the answer is the instance, and every other agrees with it; or there is none
abbrev pub MatchSortInstance : (SVar → Bool) → Sent → Sent → Found → Type 0
MatchSortInstance rigid p q (Some s) = IsSortInstance rigid (image s) p q × ((f : SVar → Sort) → IsSortInstance rigid f p q → Agrees f s)
MatchSortInstance rigid p q None = (f : SVar → Sort) → IsSortInstance rigid f p q → ⊥
