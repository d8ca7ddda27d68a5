-- The methods as a table. A row has the method's name, its arguments and what it concludes. An argument has a shape over the
-- parts A, B and C, and either has to hold or needn't.
use Rattle.std.specs.Prelude.{ℕ, Bool, true, false, List, [], ◌∷◌, codes}
use Rattle.ath_trees.specs.declared.node.Binary.TheVariants.{And, Or, If, Iff}
use Rattle.ath_prims.specs.declared.method.Method.{Method}
use Rattle.ath_prims.specs.declared.method.Method.TheVariants.{Claim, Mp, Both, LeftAnd, RightAnd, LeftEither, RightEither, Cd, Equiv, LeftIff, RightIff, Dn, Absurd, TrueIntro}
use Rattle.ath_prims.specs.declared.schema.Part.TheVariants.{A, B, C}
use Rattle.ath_prims.specs.declared.schema.Shape.{Shape}
use Rattle.ath_prims.specs.declared.schema.Shape.TheVariants.{Any, Not, NotNot, Joined}
use Rattle.ath_prims.specs.declared.schema.Premise.{Premise}
use Rattle.ath_prims.specs.declared.schema.Conclusion.{Conclusion}
use Rattle.ath_prims.specs.declared.schema.Conclusion.TheVariants.{Bare, Built, True, False}
use Rattle.ath_prims.specs.declared.schema.Row.{Row as Coded}

pub record Row : Type 0 where
  pub name : List ℕ
  pub premises : List Premise
  pub conclusion : Conclusion

-- an argument that has to hold, and one that needn't
abbrev pub held : Shape → Premise
held s = record { shape = s; must_hold = true }

abbrev pub free : Shape → Premise
free s = record { shape = s; must_hold = false }

abbrev pub schema : List ℕ → List Premise → Conclusion → Row
schema name premises conclusion = record { name = name; premises = premises; conclusion = conclusion }

abbrev pub row : Method → Row
row Claim = schema (codes "claim") (held (Any A) ∷ []) (Bare A)
row Mp = schema (codes "mp") (held (Joined If A B) ∷ held (Any A) ∷ []) (Bare B)
row Both = schema (codes "both") (held (Any A) ∷ held (Any B) ∷ []) (Built And A B)
row LeftAnd = schema (codes "left-and") (held (Joined And A B) ∷ []) (Bare A)
row RightAnd = schema (codes "right-and") (held (Joined And A B) ∷ []) (Bare B)
row LeftEither = schema (codes "left-either") (held (Any A) ∷ free (Any B) ∷ []) (Built Or A B)
row RightEither = schema (codes "right-either") (free (Any A) ∷ held (Any B) ∷ []) (Built Or A B)
row Cd = schema (codes "cd") (held (Joined Or A B) ∷ held (Joined If A C) ∷ held (Joined If B C) ∷ []) (Bare C)
row Equiv = schema (codes "equiv") (held (Joined If A B) ∷ held (Joined If B A) ∷ []) (Built Iff A B)
row LeftIff = schema (codes "left-iff") (held (Joined Iff A B) ∷ []) (Built If A B)
row RightIff = schema (codes "right-iff") (held (Joined Iff A B) ∷ []) (Built If B A)
row Dn = schema (codes "dn") (held (NotNot A) ∷ []) (Bare A)
row Absurd = schema (codes "absurd") (held (Any A) ∷ held (Not A) ∷ []) False
row TrueIntro = schema (codes "true-intro") [] True

-- the row that the code's stands for
abbrev pub row_of : Coded → Row
row_of r = record { name = r.name.now; premises = r.premises.now; conclusion = r.conclusion }
