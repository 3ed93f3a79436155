-- Which frames give a result.
use Rattle.std.specs.Prelude.{Bool, false}
use Rattle.avm2_meaning.specs.declared.frame.Frame.{Frame}
use Rattle.avm2_meaning.specs.declared.frame.Frame.TheVariants as Frame
use Rattle.avm2_meaning.specs.declared.frame.Native.{Native}
use Rattle.avm2_meaning.specs.declared.frame.Native.TheVariants as Native

-- the result of these goes to the frame below
abbrev pub native_keeps : Native → Bool
native_keeps (Native.Dispatches d) = d.keeps
native_keeps _ = false

abbrev pub keeps : Frame → Bool
keeps (Frame.Code f) = f.keeps
keeps (Frame.Does n) = native_keeps n
