-- What items spell is what the first of them spell, and then the others: what is spelled is a grammar's derivation, for any table.
use Rattle.std.proofs.Common.{◌≡◌, ◌↔◌, List, [], ◌∷◌, ◌++◌, Bool, refl, sym, ap, ◌∙◌, subst, append_assoc}
use Rattle.ath_grammar.specs.declared.item.Item.{Item}
use Rattle.ath_grammar.specs.declared.item.Item.TheVariants as I
use Rattle.ath_grammar.specs.Tokens.{Placed}
use Rattle.ath_grammar.specs.Tables.{Table, Start, Algebra}
use Rattle.ath_grammar.specs.Spells.{Spells, spelled, a_token, a_symbol, an_act, Starts, begun, passed}

tails : {i j : Item} {is js : List Item} → i ∷ is ≡ j ∷ js → is ≡ js
tails {is = is} e = ap (λ (xs : List Item). elim xs [ [] ↦ is | x ∷ ys ↦ ys ]) e

heads : (i : Item) {j : Item} {is js : List Item} → i ∷ is ≡ j ∷ js → i ≡ j
heads i e = ap (λ (xs : List Item). elim xs [ [] ↦ i | x ∷ ys ↦ x ]) e

module _ (M : Algebra) (row : Table) (a : Bool) where
  mutual
    join_on : (is : List Item) (vs : M.State) (ts : List Placed) (us : M.State) (mid : List Placed) → Spells M row a is vs ts us mid → (js : List Item) (ws : M.State) (r : List Placed) → Spells M row a js us mid ws r → Spells M row a (is ++ js) vs ts ws r
    join_on is vs ts us mid spelled js ws r k = k
    join_on is vs ts us mid (a_token e h) js ws r k = a_token e (join_on _ _ _ _ _ h js ws r k)
    join_on is vs ts us mid (a_symbol h) js ws r k = a_symbol (join_start _ _ _ _ _ _ h js ws r k)
    join_on is vs ts us mid (an_act h) js ws r k = an_act (join_on _ _ _ _ _ h js ws r k)

    join_start : (S : Start) (is : List Item) (vs : M.State) (ts : List Placed) (us : M.State) (mid : List Placed) → Starts M row a S is vs ts us mid → (js : List Item) (ws : M.State) (r : List Placed) → Spells M row a js us mid ws r → Starts M row a S (is ++ js) vs ts ws r
    join_start S is vs ts us mid (begun {js = ks} {t = t} {ts = rest} e l h) js ws r k = begun e l (subst (λ (xs : List Item). Spells M row a xs (M.save t vs) rest ws r) (append_assoc ks is js) (join_on _ _ _ _ _ h js ws r k))
    join_start S is vs ts us mid (passed e h) js ws r k = passed e (join_on _ _ _ _ _ h js ws r k)

  abbrev Parts : List Item → List Item → M.State → List Placed → M.State → List Placed → Type 0
  Parts is js vs ts ws r = (us : M.State) × (mid : List Placed) × Spells M row a is vs ts us mid × Spells M row a js us mid ws r

  abbrev StartParts : Start → List Item → List Item → M.State → List Placed → M.State → List Placed → Type 0
  StartParts S is js vs ts ws r = (us : M.State) × (mid : List Placed) × Starts M row a S is vs ts us mid × Spells M row a js us mid ws r

  mutual
    split_on : (xs : List Item) (vs : M.State) (ts : List Placed) (ws : M.State) (r : List Placed) → Spells M row a xs vs ts ws r → (is js : List Item) → xs ≡ is ++ js → Parts is js vs ts ws r
    split_on xs vs ts ws r h [] js e = (vs, ts, spelled, subst (λ (ys : List Item). Spells M row a ys vs ts ws r) e h)
    split_on xs vs ts ws r spelled (i ∷ is) js e = cc
    split_on xs vs ts ws r (a_token {c = c} q h) (i ∷ is) js e = let k = split_on _ _ _ _ _ h is js (tails e) in (k.0, k.1, subst (λ (j : Item). Spells M row a (j ∷ is) vs ts k.0 k.1) (heads (I.Token c) e) (a_token q k.2), k.3)
    split_on xs vs ts ws r (a_symbol {s = s} {x = x} h) (i ∷ is) js e = let k = split_start _ _ _ _ _ _ h is js (tails e) in (k.0, k.1, subst (λ (j : Item). Spells M row a (j ∷ is) vs ts k.0 k.1) (heads (I.Symbol s x) e) (a_symbol k.2), k.3)
    split_on xs vs ts ws r (an_act {x = x} h) (i ∷ is) js e = let k = split_on _ _ _ _ _ h is js (tails e) in (k.0, k.1, subst (λ (j : Item). Spells M row a (j ∷ is) vs ts k.0 k.1) (heads (I.Act x) e) (an_act k.2), k.3)

    split_start : (S : Start) (xs : List Item) (vs : M.State) (ts : List Placed) (ws : M.State) (r : List Placed) → Starts M row a S xs vs ts ws r → (is js : List Item) → xs ≡ is ++ js → StartParts S is js vs ts ws r
    split_start S xs vs ts ws r (begun {js = ks} {t = t} {ts = rest} e l h) is js q = let k = split_on _ _ _ _ _ h (ks ++ is) js (ap (λ (ys : List Item). ks ++ ys) q ∙ sym (append_assoc ks is js)) in (k.0, k.1, begun e l k.2, k.3)
    split_start S xs vs ts ws r (passed e h) is js q = let k = split_on _ _ _ _ _ h is js q in (k.0, k.1, passed e k.2, k.3)

  -- first these and then those
  pub joins : (is js : List Item) (vs : M.State) (ts : List Placed) (ws : M.State) (r : List Placed) → Spells M row a (is ++ js) vs ts ws r ↔ (us : M.State) × (mid : List Placed) × Spells M row a is vs ts us mid × Spells M row a js us mid ws r
  joins is js vs ts ws r = (λ h. split_on _ _ _ _ _ h is js refl, λ p. join_on is vs ts p.0 p.1 p.2 js ws r p.3)
