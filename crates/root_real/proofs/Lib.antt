mod SortedNames
mod UnknownCalls
