-- The parameters of a declaration without a list.
use Rattle.std.proofs.Common.{◌≡◌, ℕ, ◌<◌, ◌≤◌, ◌+◌, List, [], ◌∷◌, ◌++◌, length, get_or, drop, sym, ◌∙◌, ap, add-one, drop-cons}
use Rattle.std.proofs.lemmas.List.{drop_all}
use Rattle.std.specs.List.{flat_map}
use Rattle.ath_sorts.specs.declared.sorts.Sym.{Sym}
use Rattle.ath_sorts.specs.declared.sorts.Sort.{Sort}
use Rattle.ath_sorts.proofs.Gets.{append-none}
use Rattle.std.proofs.lemmas.Grind.{flat_map-append}
use Rattle.ath_declarations.specs.Steps.{noting}
use Rattle.ath_declarations.specs.Texts.{written_in, firsts}
use Rattle.ath_declarations.proofs.Names.{noting_both, noting_firsts}
use Rattle.ath_declarations.proofs.Places.{written_var, made_var}

pub noting_last : (args : List Sort) (r : Sort) → noting (noting [] (flat_map written_in args)) (written_in r) ≡ firsts (flat_map written_in (args ++ r ∷ []))
noting_last args r =
    sym (noting_both [] (flat_map written_in args) (written_in r))
    ∙ noting_firsts [] (flat_map written_in args ++ written_in r)
    ∙ ap (λ ns. firsts (flat_map written_in args ++ ns)) (sym (append-none (written_in r)))
    ∙ ap firsts (sym (flat_map-append written_in args (r ∷ [])))

pub ruleset note_steps = (written_var, made_var)

pub notes_next : (args : List Sort) (k : ℕ) (a : Sort) (keys more start : List Sym) → k < length args → a ≡ get_or args k a → noting keys (flat_map written_in (drop k args)) ≡ start → more ≡ noting keys (written_in a) → noting more (flat_map written_in (drop (k + 1) args)) ≡ start
notes_next args k a keys more start lt is h m =
    let r : drop k args ≡ a ∷ drop (k + 1) args = rw add-one (drop-cons args k a lt) ∙ ap (λ (x : Sort). x ∷ drop (k + 1) args) (sym is) in
    ap (λ ks. noting ks (flat_map written_in (drop (k + 1) args))) m
    ∙ sym (noting_both keys (written_in a) (flat_map written_in (drop (k + 1) args)))
    ∙ ap (λ ss. noting keys (flat_map written_in ss)) (sym r)
    ∙ h

pub notes_all : (args : List Sort) (k : ℕ) (keys start : List Sym) → length args ≤ k → noting keys (flat_map written_in (drop k args)) ≡ start → keys ≡ start
notes_all args k keys start le h = ap (λ ss. noting keys (flat_map written_in ss)) (sym (drop_all k args le)) ∙ h
