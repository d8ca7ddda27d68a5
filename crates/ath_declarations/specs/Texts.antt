-- What sort texts mean, and when a text that stands in a phrase is refused.
use Rattle.std.specs.Prelude.{◌==◌, not, List, [], ◌∷◌, Option, Some, None, option_map, Result, Ok, Err, if◌then◌else◌}
use Rattle.std.specs.List.{filter, flat_map}
use Rattle.ath_sorts.specs.declared.signature.Flaw.{Flaw}
use Rattle.ath_sorts.specs.declared.signature.Flaw.TheVariants.{SortTooLarge}
use Rattle.ath_sorts.specs.declared.signature.SigError.{SigError}
use Rattle.ath_sorts.specs.declared.sorts.SVar.TheVariants.{Written, Made}
use Rattle.ath_sorts.specs.declared.sorts.Sort.{Sort, Var, Con}
use Rattle.ath_sorts.specs.declared.sorts.Sort.TheOpen as sort
use Rattle.ath_sorts.specs.declared.sorts.Sort.TheFolds.{fold-Sort}
use Rattle.ath_sorts.specs.declared.sorts.Sym.{Sym}
use Rattle.ath_sorts.specs.Declaring.{error_of, first_fault, use_fault}
use Rattle.ath_sorts.specs.Sorts.{is_small}
use Rattle.ath_sorts.specs.Signature.{Signature}
use Rattle.ath_syntax.specs.declared.node.SortText.{SortText}
use Rattle.ath_syntax.specs.declared.node.SortText.TheOpen as text
use Rattle.ath_syntax.specs.declared.node.SortText.TheFolds.{fold-SortText}

abbrev pub sort_step : text.SortText-F Sort → Sort
sort_step (text.Name c) = Con c []
sort_step (text.Var p) = Var (Written p)
sort_step (text.Con c args) = Con c args

-- the sort that a text spells: a name is the constructor without arguments
abbrev pub sort_of : SortText → Sort
sort_of = fold-SortText Sort sort_step

abbrev pub written_step : sort.Sort-F (List Sym) → List Sym
written_step (sort.Var (Written p)) = p ∷ []
written_step (sort.Var (Made n)) = []
written_step (sort.Con c names) = flat_map (λ ns. ns) names

-- its written variables, each as often as it occurs, from the left
abbrev pub written_in : Sort → List Sym
written_in = fold-Sort (List Sym) written_step

-- each name once, at its first occurrence
abbrev pub firsts : List Sym → List Sym
firsts [] = []
firsts (n ∷ ns) = n ∷ filter (λ m. not (n.0 == m.0)) (firsts ns)

-- the outcome, where there is no refusal
abbrev pub unless : {A E : Type 0} → Option E → Result A E → Result A E
unless (Some e) outcome = Err e
unless None outcome = outcome

-- the first bad place from the left, where every written variable is allowed; then the limits
abbrev pub text_fault : Signature → Sort → Option Flaw
text_fault sig s = first_fault (
    use_fault sig (written_in s) s
    ∷ (if is_small s then None else Some SortTooLarge)
    ∷ [])

-- the sort of a text in an ascription or on a variable, or why it is refused
abbrev pub meaning : Signature → SortText → Result Sort SigError
meaning sig t = let s = sort_of t in unless (option_map error_of (text_fault sig s)) (Ok s)
