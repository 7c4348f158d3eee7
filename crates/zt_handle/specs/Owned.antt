-- What a C program keeps: the memory of a box, where there is one.
use Rattle.std.specs.Prelude.{Bool, true, false, Option, None, Some}
use base.Fml.{Fml, ftrue, ffalse}
use denote.RawPtr.{Ptr}
use mir.Syntax.{Ty}
use Rattle.std.specs.declared.alloc.Global.{Global}
use Rattle.std.specs.contracts.impls.GlobalAllocator.TheImpl.{ghosts}
use Rattle.std_alloc.specs.Box.Ownership.{box_owns}
use Rattle.zt_engine.specs.contracts.engine.Engine as engine
use Rattle.zt_engine.specs.declared.engine.Engine.{Engine}

-- the C library's heap, which all handles name
abbrev pub the_heap : Global
the_heap = record { memory = record { seal = tt } }

-- the right to free a block
abbrev pub may_free : Ty → Ptr → Fml
may_free ty at = ghosts.dealloc_token the_heap ty at

abbrev pub owned : Bool → Ptr → Option Engine → Fml
owned false at None = ftrue
owned true at (Some value) = box_owns may_free engine.the_row at value
owned there at value = ffalse
