-- Terms and sentences as trees.
use Rattle.std.specs.Prelude.{List, [], ◌∷◌, Option, Some, None}
use Rattle.ath_sorts.specs.declared.sorts.Sym.{Sym}
use Rattle.ath_sorts.specs.declared.sorts.Sort.{Sort}
use Rattle.ath_trees.specs.declared.node.Var.{Var}
use Rattle.ath_trees.specs.declared.node.Conn.{Conn}
use Rattle.ath_trees.specs.declared.node.Conn.TheVariants as conn
use Rattle.ath_trees.specs.declared.node.Binary.{Binary}
use Rattle.ath_trees.specs.declared.node.Binary.TheVariants.{And, Or, If, Iff}
use Rattle.ath_trees.specs.declared.node.Quant.{Quant}

-- an application has its symbol, its sort arguments and its arguments
mutual
  pub data Term : Type 0 where
    var : Var → Term
    app : Sym → List Sort → Terms → Term

  pub data Terms : Type 0 where
    none : Terms
    more : Term → Terms → Terms

pub data Sent : Type 0 where
  atom : Term → Sent
  equal : Term → Term → Sent
  negated : Sent → Sent
  joined : Binary → Sent → Sent → Sent
  bound : Quant → Var → Sent → Sent

abbrev pub listed : List Term → Terms
listed [] = none
listed (t ∷ ts) = more t (listed ts)

-- a symbol without arguments or sort arguments
abbrev pub constant : Sym → Term
constant f = app f [] none

-- a connective of two parts among all of them
abbrev pub conn_of : Binary → Conn
conn_of And = conn.And
conn_of Or = conn.Or
conn_of If = conn.If
conn_of Iff = conn.Iff

-- a connective as one of two parts, which `not` isn't
abbrev pub binary_of : Conn → Option Binary
binary_of conn.Not = None
binary_of conn.And = Some And
binary_of conn.Or = Some Or
binary_of conn.If = Some If
binary_of conn.Iff = Some Iff
