-- Trees of one code are one.
use Rattle.std.specs.Prelude.{◌≡◌, refl}
use Rattle.std.specs.Coded.{Coded, coded_list}
use Rattle.std.proofs.Common.{ap}
use Rattle.ath_sorts.specs.contracts.sorts.Sort as sort
use Rattle.ath_sorts.specs.contracts.sorts.Sym as sym'
use Rattle.ath_trees.specs.contracts.node.Var as var'
use Rattle.ath_trees.specs.contracts.node.Binary as binary
use Rattle.ath_trees.specs.contracts.node.Quant as quant
use Rattle.ath_trees.specs.Tree.{Term, Terms, var, app, none, more, Sent, atom, equal, negated, joined, bound}
use Rattle.ath_trees.specs.Code.{code_term, code_terms, code_sent}

mutual
  pub inj_term : (s t : Term) → code_term s ≡ code_term t → s ≡ t
  inj_term (var v) (var w) e = let p : var'.the_row.coded.code v ≡ var'.the_row.coded.code w = cc in ap var (var'.the_row.coded.inj v w p)
  inj_term (app f ss ts) (app g rs us) e =
      let p : sym'.the_row.coded.code f ≡ sym'.the_row.coded.code g = cc in
      let q : (coded_list sort.the_row.coded).code ss ≡ (coded_list sort.the_row.coded).code rs = cc in
      let r : code_terms ts ≡ code_terms us = cc in
      let a = sym'.the_row.coded.inj f g p in
      let b = (coded_list sort.the_row.coded).inj ss rs q in
      let c = inj_terms ts us r in
      λ i. app (a i) (b i) (c i)
  inj_term (var v) (app g rs us) e = absurd (cc)
  inj_term (app f ss ts) (var w) e = absurd (cc)

  pub inj_terms : (s t : Terms) → code_terms s ≡ code_terms t → s ≡ t
  inj_terms none none e = refl
  inj_terms (more t ts) (more u us) e =
      let p : code_term t ≡ code_term u = cc in
      let q : code_terms ts ≡ code_terms us = cc in
      let a = inj_term t u p in
      let b = inj_terms ts us q in
      λ i. more (a i) (b i)
  inj_terms none (more u us) e = absurd (cc)
  inj_terms (more t ts) none e = absurd (cc)

abbrev pub term_code : Coded Term
term_code = record { code = code_term; inj = inj_term }

pub inj_sent : (p q : Sent) → code_sent p ≡ code_sent q → p ≡ q
inj_sent (atom s) (atom t) e = let p : code_term s ≡ code_term t = cc in ap atom (inj_term s t p)
inj_sent (equal s t) (equal u v) e =
    let p : code_term s ≡ code_term u = cc in
    let q : code_term t ≡ code_term v = cc in
    let a = inj_term s u p in
    let b = inj_term t v q in
    λ i. equal (a i) (b i)
inj_sent (negated p) (negated q) e = let r : code_sent p ≡ code_sent q = cc in ap negated (inj_sent p q r)
inj_sent (joined c p q) (joined d r s) e =
    let k : binary.the_row.coded.code c ≡ binary.the_row.coded.code d = cc in
    let l : code_sent p ≡ code_sent r = cc in
    let m : code_sent q ≡ code_sent s = cc in
    let a = binary.the_row.coded.inj c d k in
    let b = inj_sent p r l in
    let f = inj_sent q s m in
    λ i. joined (a i) (b i) (f i)
inj_sent (bound q v p) (bound r w s) e =
    let k : quant.the_row.coded.code q ≡ quant.the_row.coded.code r = cc in
    let l : var'.the_row.coded.code v ≡ var'.the_row.coded.code w = cc in
    let m : code_sent p ≡ code_sent s = cc in
    let a = quant.the_row.coded.inj q r k in
    let b = var'.the_row.coded.inj v w l in
    let f = inj_sent p s m in
    λ i. bound (a i) (b i) (f i)
inj_sent p q e = absurd (cc)

abbrev pub sent_code : Coded Sent
sent_code = record { code = code_sent; inj = inj_sent }
