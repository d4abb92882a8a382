pub mod LinkerScript
pub mod ScriptEnd
pub mod Unknown
