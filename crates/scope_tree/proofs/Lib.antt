mod Left
mod SeenNames
mod Indents
