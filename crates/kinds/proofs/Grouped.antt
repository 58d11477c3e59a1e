-- The laws of a bound `Reckoned`, as the laws of a commutative group. Assumes nothing.
use Rattle.kinds.specs.contracts.laws.Reckoned.TheBound.{Met}
use Rattle.kinds.specs.Totals.{Group}
use Rattle.kinds.specs.declared.laws.Kind as Kind
use Rattle.kinds.specs.declared.laws.Reckoned as Reckoned
use Rattle.std.specs.declared.clone.Clone as Clone
use types.Logic.{Logic}
use contract.Running.{Running}
use denote.RattleType.{RattleType}
use seplogic.Ra.Ura.{Ura}
use mir.Syntax.{Dict}
use prog.Model.{Model}
use prog.Routine.{Env}

-- what a function under the bound `K: Reckoned` has as `g.met.K.Reckoned`
pub group_of : {M : Type 1} {𝓤 : Ura M} {𝓛 : Logic 𝓤} {𝓜 : Model 𝓤 𝓛.H} {𝓡 : Running 𝓤 𝓛.H 𝓜} {γ : Env} {T : RattleType} {R : Reckoned.Ghosts T.Denot} {d : Dict} {N : Kind.Ghosts T.Denot} {e : Dict} {C : Clone.Ghosts T.Denot} {f : Dict} → Met 𝓛 𝓜 𝓡 γ T R d N e C f → Group R
group_of m = record { associative = m.associative; commutative = m.commutative; left = m.left; right = m.right; cancels = m.cancels }
