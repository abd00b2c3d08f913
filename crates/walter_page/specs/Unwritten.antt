-- What was written of a text that was not written to its end.
use Rattle.std.specs.Prelude.{◌≡◌, ◌<◌, ℕ, List, Option}
use Rattle.walter_stream.specs.Streams.{AppendsFront}
use Rattle.walter_page.specs.declared.fault.WriteFault.{WriteFault}
use Rattle.walter_page.specs.declared.fault.WriteFault.TheVariants.{NoMemory, Failed}

-- what was written of a text where it was not written to its end: a front of it, and the sink has failed once more; or
-- nothing, where there was no memory
abbrev pub IsUnwritten : List ℕ → (holds holds' : Option (List ℕ)) → (faults faults' : ℕ) → WriteFault → Type 0
IsUnwritten text holds holds' faults faults' Failed = AppendsFront holds holds' text × (faults < faults')
IsUnwritten text holds holds' faults faults' NoMemory = holds' ≡ holds
