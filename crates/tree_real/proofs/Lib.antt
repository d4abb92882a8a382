mod Contained
