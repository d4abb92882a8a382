mod Ended
mod FirstNamed
mod MadePaths
