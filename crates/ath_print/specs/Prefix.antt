-- Sorts, terms and sentences in a line: prefix form, with one space between items.
use Rattle.std.specs.Prelude.{ℕ, ◌+◌, ◌==◌, Bool, true, false, not, List, [], ◌∷◌, ◌++◌, length, position, Option, Some, None, codes, if◌then◌else◌}
use Rattle.std.specs.List.{list_any}
use Rattle.std.specs.Fmt.{decimal}
use Rattle.ath_sorts.specs.declared.sorts.Sym.{Sym}
use Rattle.ath_sorts.specs.declared.sorts.SVar.{SVar}
use Rattle.ath_sorts.specs.declared.sorts.SVar.TheVariants.{Written}
use Rattle.ath_sorts.specs.declared.sorts.Sort.{Sort}
use Rattle.ath_sorts.specs.declared.sorts.Sort.TheOpen as one
use Rattle.ath_sorts.specs.declared.sorts.Sort.TheFolds.{fold-Sort}
use Rattle.ath_sorts.specs.declared.signature.Symbol.{Symbol}
use Rattle.ath_sorts.specs.Sorts.{same_svar, occurs}
use Rattle.ath_sorts.specs.Signature.{Signature, symbol_of}
use Rattle.ath_trees.specs.declared.node.Var.{Var}
use Rattle.ath_trees.specs.declared.node.Conn.{Conn}
use Rattle.ath_trees.specs.declared.node.Conn.TheVariants.{Not, And, Or, If, Iff}
use Rattle.ath_trees.specs.declared.node.Quant.{Quant}
use Rattle.ath_trees.specs.declared.node.Quant.TheVariants.{Forall, Exists}
use Rattle.ath_trees.specs.SortsIn.{result_sort}
use Rattle.ath_trees.specs.Tree.{Term, Terms, var, app, none, more, Sent, atom, equal, negated, joined, bound, conn_of}
use Rattle.ath_trees.specs.Variables.{same_var}
use Rattle.ath_env.specs.LookUp.{text_of}
use Rattle.ath_print.specs.Printers.{Printed, Printer, word, in_turn, item}

abbrev pub conn_text : Conn → List ℕ
conn_text Not = codes "not"
conn_text And = codes "and"
conn_text Or = codes "or"
conn_text If = codes "if"
conn_text Iff = codes "iff"

abbrev pub quant_text : Quant → List ℕ
quant_text Forall = codes "forall"
quant_text Exists = codes "exists"

-- ---- sorts
-- a sort variable that was shown before keeps its number, and another one has the next
abbrev pub numbered : List SVar → SVar → Option ℕ → Printed
numbered seen v (Some n) = record { text = codes "'S" ++ decimal (n + 1); seen = seen }
numbered seen v None = record { text = codes "'S" ++ decimal (length seen + 1); seen = seen ++ v ∷ [] }

abbrev pub svar_printed : SVar → Printer
svar_printed v seen = numbered seen v (position (same_svar v) seen)

abbrev pub sort_step : List (List ℕ) → one.Sort-F Printer → Printer
sort_step names (one.Var v) = svar_printed v
sort_step names (one.Con c parts) = item (text_of names c) parts

abbrev pub sort_printed : List (List ℕ) → Sort → Printer
sort_printed names = fold-Sort Printer (sort_step names)

-- ---- variables
-- an index that isn't 0 is shown
abbrev pub index_text : ℕ → List ℕ
index_text n = if n == 0 then [] else codes "%" ++ decimal n

abbrev pub var_text : List (List ℕ) → Var → List ℕ
var_text names v = codes "?" ++ text_of names v.name ++ index_text v.index

abbrev pub with_sort : List (List ℕ) → Var → Printer
with_sort names v = in_turn (word (var_text names v) ∷ word (codes ":") ∷ sort_printed names v.sort ∷ [])

-- an occurrence has its sort where no binder around it is of the same variable
abbrev pub occurrence : List (List ℕ) → List Var → Var → Printer
occurrence names binders v = if list_any (same_var v) binders then word (var_text names v) else with_sort names v

-- ---- terms
-- whether a parameter is in no argument sort, so that the arguments don't say the sort of an application
abbrev pub is_unsaid : List Sort → Sym → Bool
is_unsaid args p = not (list_any (occurs (Written p)) args)

abbrev pub leaves_unsaid : Option Symbol → Bool
leaves_unsaid (Some d) = list_any (is_unsaid d.args) d.params
leaves_unsaid None = false

abbrev pub ascribed : List (List ℕ) → Bool → Sort → Printer → Printer
ascribed names true sort p = in_turn (word (codes "(") ∷ p ∷ word (codes " : ") ∷ sort_printed names sort ∷ word (codes ")") ∷ [])
ascribed names false sort p = p

abbrev mutual
  pub term_printed : List (List ℕ) → Signature → List Var → Term → Printer
  term_printed names sig binders (var v) = occurrence names binders v
  term_printed names sig binders (app f sorts args) = ascribed names (leaves_unsaid (symbol_of sig f)) (result_sort (symbol_of sig f) sorts) (item (text_of names f) (terms_printed names sig binders args))

  pub terms_printed : List (List ℕ) → Signature → List Var → Terms → List Printer
  terms_printed names sig binders none = []
  terms_printed names sig binders (more t ts) = term_printed names sig binders t ∷ terms_printed names sig binders ts

-- the same without the sort of the term itself
abbrev pub plain_printed : List (List ℕ) → Signature → List Var → Term → Printer
plain_printed names sig binders (var v) = occurrence names binders v
plain_printed names sig binders (app f sorts args) = item (text_of names f) (terms_printed names sig binders args)

-- whether that sort is shown
abbrev pub is_ascribed : Signature → Term → Bool
is_ascribed sig (var v) = false
is_ascribed sig (app f sorts args) = leaves_unsaid (symbol_of sig f)

-- ---- sentences
abbrev pub sent_printed : List (List ℕ) → Signature → List Var → Sent → Printer
sent_printed names sig binders (atom t) = term_printed names sig binders t
sent_printed names sig binders (equal s t) = item (codes "=") (term_printed names sig binders s ∷ term_printed names sig binders t ∷ [])
sent_printed names sig binders (negated p) = item (conn_text Not) (sent_printed names sig binders p ∷ [])
sent_printed names sig binders (joined c p q) = item (conn_text (conn_of c)) (sent_printed names sig binders p ∷ sent_printed names sig binders q ∷ [])
sent_printed names sig binders (bound k v p) = item (quant_text k) (with_sort names v ∷ sent_printed names sig (binders ++ v ∷ []) p ∷ [])
