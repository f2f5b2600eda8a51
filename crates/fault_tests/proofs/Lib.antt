pub mod FirstTerminal
